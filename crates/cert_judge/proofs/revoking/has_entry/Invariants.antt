use Rattle.std.proofs.Common.{◌≡◌, ℕ, ◌<◌, get_or}
use Rattle.cert_model.specs.declared.fields.EntryFields.{EntryFields}
use Rattle.cert_model.specs.View.{entry_view}
use Rattle.cert_judge.proofs.revoking.has_entry.Given as goal

abbrev pub invariant-loop-entry : goal.invariant-loop-entry
invariant-loop-entry l = (k : ℕ) (d : EntryFields) → k < l.entry-index → (entry_view (get_or l.entries k d)).serial ≡ l.serial → ⊥
