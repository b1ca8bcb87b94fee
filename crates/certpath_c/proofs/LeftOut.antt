-- Without an identifier no extension is left out.
use Rattle.std.specs.Prelude.{◌≢◌, ◌<◌, bytes_eq, if◌then◌else◌}
use Rattle.std.proofs.Common.{◌≡◌, ◌∙◌, ap, refl, arith, ℕ, false, List, [], ◌∷◌, ◌++◌, length}
use Rattle.asn1_oid.proofs.ByOctets.{content_by_octets}
use Rattle.cert_model.specs.Fields.{Extension, Certificate}
use Rattle.cert_model.specs.Range.{AreExtensions, AreCertificateFields}
use Rattle.certpath_c.specs.Tbs.{kept, without, certificate_without}

differs : (octets : List ℕ) → 0 < length octets → bytes_eq octets [] ≡ false
differs [] some = absurd (omega (arith, some))
differs (x ∷ xs) some = refl

one_kept : (e : Extension) → 0 < length e.identifier → kept [] e ≡ e ∷ []
one_kept e some = ap (λ b. if b then [] else e ∷ []) (differs e.identifier some)

all_kept : (es : List Extension) → AreExtensions es → without [] es ≡ es
all_kept [] all = refl
all_kept (e ∷ es) all = ap (λ l. l ++ without [] es) (one_kept e (content_by_octets e.identifier all.0).some) ∙ ap (λ l. e ∷ l) (all_kept es all.1)

pub nothing_left_out : (c : Certificate) → AreCertificateFields c → certificate_without [] c ≡ c
nothing_left_out c fields =
    let same = all_kept c.extensions fields.extensions in
    λ i. record {
      version = c.version;
      serial = c.serial;
      signature = c.signature;
      issuer = c.issuer;
      not_before = c.not_before;
      not_after = c.not_after;
      subject = c.subject;
      key = c.key;
      issuer_id = c.issuer_id;
      subject_id = c.subject_id;
      extensions = same i;
      algorithm = c.algorithm;
      signature_value = c.signature_value;
    }
