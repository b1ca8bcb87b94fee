use Rattle.std.proofs.Common.{[], Some, take}
use Rattle.cert_reasons.specs.declared.links.Unlinked.TheVariants.{RevokedBy}
use Rattle.certpath_why.specs.Against.{IsLineOf}
use Rattle.certpath_why.specs.Kinds.{AddsTails}
use Rattle.certpath_why.specs.Revoked.{AreMet, SignsFirst}
use Rattle.certpath_why.specs.Sides.{others_of}
use Rattle.certpath_why.specs.Why.{AreTexts}
use Rattle.certpath_why.proofs.Revokers.{AreHeld}
use Rattle.certpath_why.proofs.revoked.row_tails.Given as goal

abbrev pub invariant-loop-list : goal.invariant-loop-list
invariant-loop-list g l =
    AddsTails (λ front. AreTexts (λ p. IsLineOf front (Some (RevokedBy p)) (SignsFirst (g.V.Vouch.vouches_for l.question.vouch.now).Vouches l.question.found.now.items.now (others_of l.side) l.lists p)) (take l.list-index l.lists)) [] l.tails.items
    × AreHeld (g.V.Vouch.vouches_for l.question.vouch.now).Vouches l.question.found.now.items.now (others_of l.side) l.lists l.list-index l.met.places
    × AreMet (g.V.Vouch.vouches_for l.question.vouch.now).Vouches l.question.found.now.items.now (others_of l.side) l.question.signers.now.classes l.side.firsts.now l.side.name.now l.met
