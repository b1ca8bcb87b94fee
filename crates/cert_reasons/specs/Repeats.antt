-- Which extensions repeat an identifier. Contracts of private functions cite it.
use Rattle.std.specs.Prelude.{◌≡◌, ◌↔◌, ◌<◌, ℕ, Bool, List, length, map, IsTrue, slice_index_or}
use Rattle.cert_model.specs.declared.fields.ExtField.{ExtField}
use Rattle.cert_model.specs.View.{ext_view}
use Rattle.cert_reasons.specs.Certificates.{IsRepeat}

-- of each of the first k extensions, whether one of its identifier comes before it
pub record AreRepeats (es : List ExtField) (k : ℕ) (repeats : List Bool) : Type 0 where
  pub count : length repeats ≡ k
  pub each : (p : ℕ) (b : Bool) → p < k → IsTrue (slice_index_or repeats p b) ↔ IsRepeat (map ext_view es) p
