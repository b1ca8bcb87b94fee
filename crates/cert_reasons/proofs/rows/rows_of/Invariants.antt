use Rattle.std.specs.Prelude.{◌↔◌}
use Rattle.std.proofs.Common.{ℕ, List}
use Rattle.cert_reasons.specs.Rows.{HasRow}
use Rattle.cert_reasons.proofs.Rowing.{HasSerialBefore}
use Rattle.cert_reasons.proofs.rows.rows_of.Given as goal

abbrev pub invariant-loop-place : goal.invariant-loop-place
invariant-loop-place l = (s : List ℕ) (p : ℕ) → HasRow l.rows s p ↔ HasSerialBefore l.items s p l.places l.place-index
