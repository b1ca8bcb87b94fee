use Rattle.std.specs.Prelude.{◌↔◌, ◌⊎◌, IsTrue}
use Rattle.std.proofs.Common.{◌≡◌, ℕ, List, Bor}
use Rattle.std.specs.BTreeSet as sorted
use Rattle.cert_judge.proofs.Sets.{R}
use Rattle.cert_judge.proofs.Before.{SomeBefore}
use Rattle.cert_judge.proofs.serials.add_asked.Given as goal

abbrev pub invariant-loop-serial : goal.invariant-loop-serial
invariant-loop-serial l = (s : Bor (List ℕ)) → IsTrue (sorted.contains R l.revoked s)
    ↔ (IsTrue (sorted.contains R l.initial.revoked s) ⊎ SomeBefore (λ t. (t.now ≡ s.now) × IsTrue (sorted.contains R l.set t)) l.asked l.serial-index)
