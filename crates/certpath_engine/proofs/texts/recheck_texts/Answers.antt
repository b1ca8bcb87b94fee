use Rattle.std.proofs.Common.{arith, codes, refl}
use Rattle.certpath_engine.specs.Asking.{recheck_arguments}
use Rattle.certpath_engine.proofs.WordLemmas.{lacks_one, evidence_fault, recheck_values}
use Rattle.certpath_engine.proofs.texts.recheck_texts.Goals as goal

pub returns-in_default : goal.returns-in_default
returns-in_default c = lacks_one recheck_arguments c.args.found.now 0 (codes "EVIDENCE") (omega arith) refl c.in_default.ensures

pub returns-in-Ok : goal.returns-in-Ok
returns-in-Ok c = (refl, recheck_values c.args.found.now _ c.in-Some.ensures c.in-Ok.ensures)

pub returns-in-Err : goal.returns-in-Err
returns-in-Err c = evidence_fault (codes "recheck") _ _ c.in-Err.ensures
