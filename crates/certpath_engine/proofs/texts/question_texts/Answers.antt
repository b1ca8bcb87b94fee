use Rattle.std.proofs.Common.{arith, codes, refl}
use Rattle.certpath_engine.specs.Asking.{path_arguments}
use Rattle.certpath_engine.proofs.WordLemmas.{lacks_one, path_values}
use Rattle.certpath_engine.proofs.texts.question_texts.Goals as goal

pub returns-in_default : goal.returns-in_default
returns-in_default c = lacks_one path_arguments c.args.found.now 0 (codes "target") (omega arith) refl c.in_default.ensures

pub returns-in-Ok : goal.returns-in-Ok
returns-in-Ok c = path_values c.args.found.now _ c.in-Some.ensures c.get_str-host.ensures c.in-Ok.ensures
