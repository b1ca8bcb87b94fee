use Rattle.std.proofs.Common.{arith, codes, refl}
use Rattle.certpath_engine.specs.Asking.{all_arguments}
use Rattle.certpath_engine.proofs.WordLemmas.{lacks_one, all_values}
use Rattle.certpath_engine.proofs.texts.all_texts.Goals as goal

pub returns : goal.returns
returns c = all_values c.args.found.now _ c.in-Some.ensures c.in-Some-get_str.ensures c.in-Some-get_str-2.ensures c.in-Some-get_str-3.ensures c.in-Some-get_str-4.ensures c.in-Some-get_str-5.ensures c.get_str-purpose.ensures

pub returns-in_default : goal.returns-in_default
returns-in_default c = lacks_one all_arguments c.args.found.now 0 (codes "BUNDLE") (omega arith) refl c.in_default.ensures

pub returns-in_default-get_str : goal.returns-in_default-get_str
returns-in_default-get_str c = lacks_one all_arguments c.args.found.now 1 (codes "ANCHORS") (omega arith) refl c.in_default-get_str.ensures

pub returns-in_default-get_str-2 : goal.returns-in_default-get_str-2
returns-in_default-get_str-2 c = lacks_one all_arguments c.args.found.now 2 (codes "VOUCHERS") (omega arith) refl c.in_default-get_str-2.ensures

pub returns-in_default-get_str-3 : goal.returns-in_default-get_str-3
returns-in_default-get_str-3 c = lacks_one all_arguments c.args.found.now 3 (codes "at") (omega arith) refl c.in_default-get_str-3.ensures

pub returns-in_default-get_str-4 : goal.returns-in_default-get_str-4
returns-in_default-get_str-4 c = lacks_one all_arguments c.args.found.now 4 (codes "demand-lists") (omega arith) refl c.in_default-get_str-4.ensures

pub returns-in_default-get_str-5 : goal.returns-in_default-get_str-5
returns-in_default-get_str-5 c = lacks_one all_arguments c.args.found.now 5 (codes "limit") (omega arith) refl c.in_default-get_str-5.ensures
