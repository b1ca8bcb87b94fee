use Rattle.std.proofs.Common.{ℕ, ◌<◌, get_or}
use Rattle.example_path.specs.declared.verified.Signature.{Signature}
use Rattle.example_path.specs.Vouching.{IsVouched}
use Rattle.example_path.proofs.verified.are_vouched.Given as goal

abbrev pub invariant-loop-signature : goal.invariant-loop-signature
invariant-loop-signature l = (k : ℕ) (d : Signature) → k < l.signature-index → IsVouched l.key l.item (get_or l.signatures k d) → ⊥
