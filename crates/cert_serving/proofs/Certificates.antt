-- What is said of items, by what they were read as.
use Rattle.std.specs.Prelude.{◌↔◌, IsTrue, map}
use Rattle.std.proofs.Common.{◌≡◌, ◌∙◌, ap, sym, subst, refl, ℕ, Bool, true, false, List, if◌then◌else◌}
use Rattle.std.proofs.lemmas.Bool.{false≢true}
use Rattle.cert_model.specs.Fields.{Extension, Certificate}
use Rattle.cert_model.specs.Class.{IsCertificateItem, IsClassOf}
use Rattle.cert_model.proofs.Classes.{certificate_once, not_both_lem}
use Rattle.cert_model.specs.declared.fields.CertFields.{CertFields}
use Rattle.cert_model.specs.ClassView.{class_view}
use Rattle.cert_model.specs.declared.class.ItemClass.{ItemClass}
use Rattle.cert_model.specs.declared.class.ItemClass.TheVariants.{Certificate as certificate_read, List as list_read, Other as other_read}
use Rattle.cert_model.specs.View.{list_view}
use Rattle.cert_serving.specs.declared.item.Answer.{Answer}
use Rattle.cert_serving.specs.declared.item.Answer.TheVariants.{NotCertificate, No, Yes}
use Rattle.cert_serving.specs.Demanding.{Demanded, Meets, IsPermitted, IsNoCertificate, HasExtensions, IsAnswer}

-- what was read as no certificate is none
pub none_read : (octets : List ℕ) (class : ItemClass) → IsClassOf octets (class_view class) → ((f : CertFields) → class ≡ certificate_read f → ⊥) → IsNoCertificate octets
none_read octets (certificate_read f) is not = absurd (not f refl)
none_read octets (list_read f) is not = λ c i. not_both_lem octets c (list_view f) i is
none_read octets other_read is not = is.0

-- the answer by a test of the extensions
pub answered : (octets : List ℕ) (es : List Extension) (P : List Extension → Type 0) (b : Bool) (a : Answer) → HasExtensions octets es → (IsTrue b ↔ P es) → a ≡ (if b then Yes else No) → IsAnswer octets P a
answered octets es P true a h t e = subst (IsAnswer octets P) (sym e) (h.0, h.1, subst P (sym h.2) (t.0 refl))
answered octets es P false a h t e = subst (IsAnswer octets P) (sym e) (h.0, h.1, λ p. false≢true (t.1 (subst P h.2 p)))

-- a certificate is permitted exactly if its extensions meet the demands
pub permitted_by : (d : Demanded) (octets : List ℕ) (es : List Extension) → HasExtensions octets es → Meets d octets es ↔ IsPermitted d octets
permitted_by d octets es h = (
  λ m c i. subst (Meets d octets) (sym h.2 ∙ ap (λ (z : Certificate). z.extensions) (certificate_once octets h.0 c h.1 i)) m,
  λ p. subst (Meets d octets) h.2 (p h.0 h.1),
)
