-- What `certpath_tbs` returns.
use Rattle.std.specs.Prelude.{◌≡◌, ◌⊎◌, ℕ, ℤ, Bool, true, false, List, [], ◌∷◌, length, bytes_eq, if◌then◌else◌}
use Rattle.std.specs.List.{flat_map}
use Rattle.cert_model.specs.Class.{IsCertificateItem}
use Rattle.cert_model.specs.Fields.{Identifier, Extension, Certificate}
use Rattle.cert_model.specs.Octets.{tbs_certificate_octets, certificate_octets}
use Rattle.cert_serving.specs.Demanding.{IsNoCertificate}
use Rattle.certpath_c.specs.Status.{done, out_of_memory, too_small, not_certificate}
use Rattle.certpath_c.specs.Writing.{Puts}

-- an extension, unless it has the identifier
abbrev pub kept : Identifier → Extension → List Extension
kept identifier e = if bytes_eq e.identifier identifier then [] else e ∷ []

-- the extensions that don't have it, in their order
abbrev pub without : Identifier → List Extension → List Extension
without identifier = flat_map (kept identifier)

-- the fields of a certificate, without the extensions of the identifier
abbrev pub certificate_without : Identifier → Certificate → Certificate
certificate_without identifier c = record {
  version = c.version;
  serial = c.serial;
  signature = c.signature;
  issuer = c.issuer;
  not_before = c.not_before;
  not_after = c.not_after;
  subject = c.subject;
  key = c.key;
  issuer_id = c.issuer_id;
  subject_id = c.subject_id;
  extensions = without identifier c.extensions;
  algorithm = c.algorithm;
  signature_value = c.signature_value;
}

-- the item is a certificate, whose fields but for these extensions write the octets
abbrev pub IsRebuilt : List ℕ → Identifier → List ℕ → Type 0
IsRebuilt item identifier octets = (c : Certificate) × IsCertificateItem item c × (octets ≡ certificate_octets (certificate_without identifier c))

-- the item is a certificate, and its TBSCertificate without these extensions was put into the buffer,
-- or not, if it doesn't fit
pub record HasTbs (item identifier buffer buffer' : List ℕ) (length' : ℕ) (fits : Bool) : Type 0 where
  pub certificate : Certificate
  pub is_certificate : IsCertificateItem item certificate
  pub length_is : length' ≡ length (tbs_certificate_octets (certificate_without identifier certificate))
  pub written : Puts buffer buffer' (tbs_certificate_octets (certificate_without identifier certificate)) fits

abbrev pub TbsAnswer : List ℕ → Identifier → List ℕ → List ℕ → ℕ → ℕ → ℤ → Type 0
TbsAnswer item identifier buffer buffer' size size' status =
    ((status ≡ done) × HasTbs item identifier buffer buffer' size' true)
    ⊎ ((status ≡ too_small) × HasTbs item identifier buffer buffer' size' false)
    ⊎ ((status ≡ not_certificate) × IsNoCertificate item × (buffer' ≡ buffer) × (size' ≡ size))
    ⊎ ((status ≡ out_of_memory) × (buffer' ≡ buffer) × (size' ≡ size))
