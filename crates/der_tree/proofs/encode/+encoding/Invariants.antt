use Rattle.std.proofs.Common.{◌≡◌, ◌++◌, drop}
use Rattle.der_tree.specs.Encode.{all_encoded}
use Rattle.der_tree.specs.View.{views}
use Rattle.der_tree.proofs.encode.+encoding.Given as goal

-- what was written, with what is still to come, is all of it
abbrev pub invariant-push_all-loop-part : goal.invariant-push_all-loop-part
invariant-push_all-loop-part l = l.out.items ++ all_encoded (views (drop l.part-index l.parts)) ≡ l.fn.out.items ++ all_encoded (views l.parts)
