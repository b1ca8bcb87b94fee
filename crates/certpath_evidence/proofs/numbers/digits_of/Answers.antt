use Rattle.certpath_evidence.proofs.NumberFacts.{digits_utf8}
use Rattle.certpath_evidence.proofs.Pieces.{utf8_some}
use Rattle.certpath_evidence.proofs.numbers.digits_of.Goals as goal

pub returns-clause-only : goal.returns-clause-only
returns-clause-only c = λ digits. utf8_some c.from_utf8.result c.ok.result _ _ _ c.from_utf8.ensures.cases (digits_utf8 c.args.octets.now digits) c.ok.ensures.value
