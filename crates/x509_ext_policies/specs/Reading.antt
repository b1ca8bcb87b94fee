-- The readers of this crate as functions on octets. What they read is defined in `Policies`; laws
-- tie each function to it. None of their refusals is promised by its error.
use Rattle.std.specs.Prelude.{ℕ, ◌||◌, Bool, false, if◌then◌else◌, List, [], ◌∷◌, ◌++◌, Ok, bytes_eq}
use Rattle.asn1_any.specs.Cutting.{Piece}
use Rattle.x509_core.specs.Answers.{Answer, ◌>>=◌}
use Rattle.x509_core.specs.Reading.{Reader, next}
use Rattle.x509_items.specs.Reading.{held, sequence_of, maybe_of, some_of, ended, all_of, oid_at}
use Rattle.x509_ext_policies.specs.Purposes.{any_extended_key_usage, id_kp, named_purposes}
use Rattle.x509_ext_policies.specs.Values as values

unfoldable pub qualifier_parts_at : List ℕ → Answer values.PolicyQualifierInfo
qualifier_parts_at i = do
  id ← oid_at i
  Ok (record { policy_qualifier_id = id.0; qualifier = id.1 })

abbrev pub qualifier_in : Piece → Answer values.PolicyQualifierInfo
qualifier_in = held 16 (ended qualifier_parts_at)

abbrev pub qualifier_at : Reader values.PolicyQualifierInfo
qualifier_at = next qualifier_in

abbrev pub qualifiers_at : Reader (List values.PolicyQualifierInfo)
qualifiers_at = next (held 16 (some_of qualifier_at))

unfoldable pub policy_parts_at : Reader values.PolicyInformation
policy_parts_at i = do
  id ← oid_at i
  let qualifiers = maybe_of qualifiers_at id.1
  Ok (record { policy_id = id.0; policy_qualifiers = qualifiers.0 }, qualifiers.1)

abbrev pub policy_in : Piece → Answer values.PolicyInformation
policy_in = held 16 policy_parts_at

abbrev pub policy_at : Reader values.PolicyInformation
policy_at = next policy_in

abbrev pub policies_in : Piece → Answer (List values.PolicyInformation)
policies_in = held 16 (ended (all_of policy_at))

abbrev pub policies_at : Reader (List values.PolicyInformation)
policies_at = next policies_in

unfoldable pub mapping_parts_at : Reader values.PolicyMapping
mapping_parts_at i = do
  issuer ← oid_at i
  subject ← oid_at issuer.1
  Ok (record { issuer_domain_policy = issuer.0; subject_domain_policy = subject.0 }, subject.1)

abbrev pub mapping_in : Piece → Answer values.PolicyMapping
mapping_in = sequence_of mapping_parts_at

abbrev pub mapping_at : Reader values.PolicyMapping
mapping_at = next mapping_in

abbrev pub mappings_in : Piece → Answer (List values.PolicyMapping)
mappings_in = sequence_of (ended (all_of mapping_at))

abbrev pub mappings_at : Reader (List values.PolicyMapping)
mappings_at = next mappings_in

-- whether an identifier is among them
abbrev pub has : List ℕ → List (List ℕ) → Bool
has id [] = false
has id (x ∷ xs) = bytes_eq x id || has id xs

-- those without a flag, after those that were kept before, each at its first place
abbrev pub once_of : List (List ℕ) → List (List ℕ) → List (List ℕ)
once_of kept [] = kept
once_of kept (id ∷ ids) = if has id named_purposes || has id kept then once_of kept ids else once_of (kept ++ id ∷ []) ids

abbrev pub sorted : List (List ℕ) → values.ExtendedKeyUsage
sorted ids = record {
  any = has any_extended_key_usage ids;
  server_auth = has (id_kp 1) ids;
  client_auth = has (id_kp 2) ids;
  code_signing = has (id_kp 3) ids;
  email_protection = has (id_kp 4) ids;
  time_stamping = has (id_kp 8) ids;
  ocsp_signing = has (id_kp 9) ids;
  other = once_of [] ids;
}

abbrev pub purposes_parts_at : Reader values.ExtendedKeyUsage
purposes_parts_at i = do
  ids ← all_of oid_at i
  Ok (sorted ids, [])

abbrev pub purposes_in : Piece → Answer values.ExtendedKeyUsage
purposes_in = sequence_of purposes_parts_at

abbrev pub purposes_at : Reader values.ExtendedKeyUsage
purposes_at = next purposes_in
