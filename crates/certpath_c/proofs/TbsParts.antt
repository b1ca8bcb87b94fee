-- The first part of a certificate.
use Rattle.std.proofs.Common.{◌≡◌, refl, ℕ, List, [], ◌∷◌, ◌++◌, lit<}
use Rattle.std.specs.List.{concat}
use Rattle.cert_model.specs.Fields.{Certificate}
use Rattle.cert_model.specs.Octets.{version_octets, number_octets, algorithm_octets, name_octets, validity_octets, key_octets, optional_octets, implicit_bits_octets, tagged_extensions_octets, sequence_octets, bit_field_octets, tbs_certificate_octets, certificate_octets}
use Rattle.cert_model.specs.Parts.{IsPart}
use Rattle.cert_judge.proofs.WindowFacts.{sequence_part, signed_rest}

pub tbs_first : (c : Certificate) → certificate_octets c ≡ sequence_octets (tbs_certificate_octets c ++ signed_rest c.algorithm c.signature_value)
unfolding certificate_octets
tbs_first c = refl

pub tbs_part : (c : Certificate) → IsPart (tbs_certificate_octets c)
unfolding tbs_certificate_octets
tbs_part c = sequence_part (concat (version_octets c.version ∷ number_octets c.serial ∷ algorithm_octets c.signature
    ∷ name_octets c.issuer ∷ validity_octets c.not_before c.not_after ∷ name_octets c.subject ∷ key_octets c.key
    ∷ optional_octets (implicit_bits_octets 1) c.issuer_id ∷ optional_octets (implicit_bits_octets 2) c.subject_id
    ∷ tagged_extensions_octets 3 c.extensions ∷ []))
