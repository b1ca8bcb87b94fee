use Rattle.std.proofs.Common.{ℕ, ◌<◌, List, Bor, get_or}
use Rattle.cert_reasons.proofs.lists.is_vouched_by_any.Given as goal

abbrev pub invariant-loop-key : goal.invariant-loop-key
invariant-loop-key g l = (k : ℕ) (d : Bor (List ℕ)) → k < l.key-index → (g.V.Vouch.vouches_for l.vouch).Vouches (get_or l.keys k d).now l.item → ⊥
