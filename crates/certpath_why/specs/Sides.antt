-- The certificates of one issuer's name. Contracts of private functions cite it.
use Rattle.std.specs.Prelude.{List, map}
use Rattle.cert_judge.specs.Items.{item_of}
use Rattle.cert_judge.specs.Revoking.{Item}
use Rattle.cert_judge.specs.declared.vouch.Vouch.{Ghosts}
use Rattle.certpath_why.specs.Named.{AreIssuers}
use Rattle.certpath_why.specs.Reached.{HasSubject}
use Rattle.certpath_why.specs.Signers.{AreSignedBy, AreSignedFirsts}
use Rattle.certpath_why.specs.declared.question.Question.{Question}
use Rattle.certpath_why.specs.declared.side.Side.{Side}

abbrev pub others_of : Side → List Item
others_of side = map item_of side.others.now

-- the certificates are those of the name, and the signers those of the items
pub record IsSide {V : Type 0} (vouch : Ghosts V) (question : Question V) (side : Side) : Type 0 where
  pub signed : AreSignedBy (vouch.vouches_for question.vouch.now).Vouches question.found.now.items.now side.others.now question.signers.now.classes side.holders.now
  pub firsts : AreSignedFirsts (vouch.vouches_for question.vouch.now).Vouches question.found.now.items.now side.others.now question.signers.now.classes side.firsts.now
  pub named : AreIssuers side.others.now side.name.now side.named.now
  pub first : HasSubject (others_of side) side.name.now side.first
