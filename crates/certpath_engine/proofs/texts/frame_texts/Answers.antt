use Rattle.std.proofs.Common.{arith, codes, refl}
use Rattle.certpath_engine.specs.Asking.{frame_arguments}
use Rattle.certpath_engine.proofs.WordLemmas.{lacks_one, frame_values}
use Rattle.certpath_engine.proofs.texts.frame_texts.Goals as goal

pub returns : goal.returns
returns c = (refl, frame_values c.args.found.now _ c.in-Some.ensures c.in-Some-get_str.ensures c.in-Some-get_str-2.ensures)

pub returns-in_default : goal.returns-in_default
returns-in_default c = lacks_one frame_arguments c.args.found.now 0 (codes "FILE") (omega arith) refl c.in_default.ensures

pub returns-in_default-get_str : goal.returns-in_default-get_str
returns-in_default-get_str c = lacks_one frame_arguments c.args.found.now 1 (codes "limit") (omega arith) refl c.in_default-get_str.ensures

pub returns-in_default-get_str-2 : goal.returns-in_default-get_str-2
returns-in_default-get_str-2 c = lacks_one frame_arguments c.args.found.now 2 (codes "why") (omega arith) refl c.in_default-get_str-2.ensures
