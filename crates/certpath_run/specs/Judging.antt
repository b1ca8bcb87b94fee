-- Items of a stream, judged at a moment.
use Rattle.std.specs.Prelude.{ℕ, List}
use Rattle.cert_judge.specs.Classed.{AreClassed}
use Rattle.cert_judge.specs.JudgedItems.{AreJudged}
use Rattle.cert_judge.specs.Revoking.{Item}
use Rattle.cert_judge.specs.declared.judged.JudgedItem.{JudgedItem}
use Rattle.cert_model.specs.Fields.{CivilTime}

-- by the classes of the items
abbrev pub AreJudgedOf : CivilTime → List (List ℕ) → List JudgedItem → Type 0
AreJudgedOf moment octets judged = (classed : List Item) × AreClassed octets classed × AreJudged moment classed judged
