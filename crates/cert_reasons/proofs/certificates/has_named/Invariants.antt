use Rattle.std.proofs.Common.{◌≡◌, ℕ, ◌<◌, get_or}
use Rattle.cert_model.specs.declared.fields.ExtField.{ExtField}
use Rattle.cert_model.specs.View.{ext_view}
use Rattle.cert_reasons.proofs.certificates.has_named.Given as goal

abbrev pub invariant-loop-extension : goal.invariant-loop-extension
invariant-loop-extension l = (k : ℕ) (d : ExtField) → k < l.extension-index → (ext_view (get_or l.extensions k d)).identifier ≡ l.identifier → ⊥
