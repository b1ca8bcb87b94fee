use Rattle.std.specs.Prelude.{◌↔◌, ◌⊎◌}
use Rattle.std.proofs.Common.{◌≡◌, ℕ, List}
use Rattle.cert_judge.proofs.Before.{SomeBefore}
use Rattle.cert_model.specs.View.{entry_view}
use Rattle.cert_model.specs.declared.fields.EntryFields.{EntryFields}
use Rattle.cert_reasons.specs.Rows.{HasRow}
use Rattle.cert_reasons.proofs.rows.add_entries.Given as goal

abbrev pub invariant-loop-entry : goal.invariant-loop-entry
invariant-loop-entry l = (s : List ℕ) (p : ℕ) → HasRow l.rows s p ↔ (HasRow l.initial.rows s p ⊎ (SomeBefore (λ (x : EntryFields). (entry_view x).serial ≡ s) l.entries l.entry-index × (l.place ≡ p)))
