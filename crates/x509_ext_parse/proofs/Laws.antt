-- Values of extensions are parsed as the relations say, and in no other way.
use Rattle.std.proofs.Common.{◌≡◌, ◌∙◌, refl, sym, ap, ℕ, List, [], ◌∷◌, Option, Some, None, Ok, Err, inl, inr}
use Rattle.std.specs.Int.Digits.{AllBelowBase}
use Rattle.std.specs.Prelude.{bytes_eq}
use Rattle.std.proofs.lemmas.Slice.Eq.{bytes_eq-Decides}
use Rattle.asn1_core.proofs.Cases.{chosen}
use Rattle.x509_core.specs.Answers.{Answer}
use Rattle.x509_core.specs.Grammar.{Grammar, Holds, ToEnd}
use Rattle.x509_core.specs.Leaves.{Leaf, IsOctets}
use Rattle.x509_core.specs.Reading.{Reader}
use Rattle.x509_core.proofs.Grammars.{IsReading, next_reading}
use Rattle.x509_items.specs.Grammar.{HoldsSequence}
use Rattle.x509_ext_parse.specs.Values as values
use Rattle.x509_ext_basic.specs.x509_ext_flags.specs.Extensions.{KeyIdentifier, KeyUsage, NetscapeType, PolicyConstraintsParts, PolicyConstraints, InhibitAnyPolicy}
use Rattle.x509_ext_basic.specs.x509_ext_flags.specs.Flags.{AreSixteen, AreEight}
use Rattle.x509_ext_basic.specs.x509_ext_flags.specs.Numbers.{IsNumber}
use Rattle.x509_ext_basic.specs.x509_ext_flags.specs.Reading.{key_identifier_in, key_identifier_at, sixteen_in, usage_at, netscape_in, netscape_at, policy_constraints_in, policy_constraints_at, tagged_number_in, inhibit_at}
use Rattle.x509_ext_basic.specs.x509_ext_flags.proofs.Laws.{key_identifier_meaning, usage_meaning, netscape_meaning, policy_constraints_meaning, number_meaning}
use Rattle.x509_ext_points.specs.x509_ext_names.specs.Extensions.{AuthorityKeyIdentifierParts, AuthorityKeyIdentifier, AlternativeName, NameConstraintsParts, NameConstraints, AccessDescription, InfoAccess}
use Rattle.x509_ext_points.specs.x509_ext_names.specs.Names.{GeneralName}
use Rattle.x509_ext_points.specs.x509_ext_names.specs.Reading.{authority_key_in, authority_key_at, alternative_in, alternative_at, name_constraints_in, name_constraints_at, info_access_in, info_access_at}
use Rattle.x509_ext_points.specs.x509_ext_names.proofs.Laws.{alternative_meaning, authority_key_meaning, name_constraints_meaning, info_access_meaning}
use Rattle.x509_ext_basic.specs.Leaves.{BasicConstraints, CRLNumber, CRLReason, InvalidityDate, NetscapeComment}
use Rattle.x509_ext_basic.specs.Reading.{constraints_at, number_at, reason_at, date_at, comment_at}
use Rattle.x509_ext_basic.proofs.Laws.{number_reading, reason_reading, date_reading, comment_reading}
use Rattle.x509_ext_basic.proofs.BasicLaws.{constraints_reading}
use Rattle.x509_ext_points.specs.x509_ext_policies.specs.Policies.{CertificatePolicies, PolicyMapping, PolicyMappings}
use Rattle.x509_ext_points.specs.x509_ext_policies.specs.Purposes.{ExtendedKeyUsageParts, ExtendedKeyUsage}
use Rattle.x509_ext_points.specs.x509_ext_policies.specs.Reading.{policies_at, mappings_in, mappings_at, purposes_in, purposes_at}
use Rattle.x509_ext_points.specs.x509_ext_policies.proofs.Laws.{policies_reading, mappings_meaning}
use Rattle.x509_ext_points.specs.x509_ext_policies.proofs.PurposeLaws.{purposes_meaning}
use Rattle.x509_ext_points.specs.Points.{DistributionPoint, CRLDistributionPoints, IssuingDistributionPoint}
use Rattle.x509_ext_points.specs.Reading.{points_in, points_at, issuing_at}
use Rattle.x509_ext_points.proofs.Laws.{points_meaning, issuing_reading}
use Rattle.x509_ext_sct.specs.Reading.{list_at}
use Rattle.x509_ext_sct.specs.Timestamps.{TimestampList}
use Rattle.x509_ext_sct.proofs.Laws.{list_reading}
use Rattle.x509_ext_parse.specs.Kinds.{identifier_of}
use Rattle.x509_ext_parse.specs.Parsed.{Begins, IsOf, IsParsed, is_read, is_refused, is_unknown}
use Rattle.x509_ext_parse.specs.Reading.{among, known, kind_of, made, value_in, or_error, by_kind, deeply}
use Rattle.x509_ext_parse.specs.declared.kind.Kind.{Kind}
use Rattle.x509_ext_parse.specs.declared.kind.Kind.TheVariants as kinds

-- ---- identifiers

among_is : (identifier : List ℕ) (all : List Kind) (kind : Kind) → among identifier all ≡ Some kind → identifier ≡ identifier_of kind
among_is identifier [] kind given = cc
among_is identifier (first ∷ others) kind given =
    elim (chosen (bytes_eq (identifier_of first) identifier) _ _ _ given) [
      | inl is ↦
          let same : first ≡ kind = let some = is.1 in cc in
          sym ((bytes_eq-Decides (identifier_of first) identifier).0 is.0) ∙ ap identifier_of same
      | inr other ↦ among_is identifier others kind other.1
    ]

kind_there : (kind : Kind) → kind_of (identifier_of kind) ≡ Some kind
kind_there kinds.SubjectKeyIdentifier = refl
kind_there kinds.KeyUsage = refl
kind_there kinds.SubjectAlternativeName = refl
kind_there kinds.IssuerAlternativeName = refl
kind_there kinds.BasicConstraints = refl
kind_there kinds.CRLNumber = refl
kind_there kinds.ReasonCode = refl
kind_there kinds.InvalidityDate = refl
kind_there kinds.IssuingDistributionPoint = refl
kind_there kinds.NameConstraints = refl
kind_there kinds.CRLDistributionPoints = refl
kind_there kinds.CertificatePolicies = refl
kind_there kinds.PolicyMappings = refl
kind_there kinds.AuthorityKeyIdentifier = refl
kind_there kinds.PolicyConstraints = refl
kind_there kinds.ExtendedKeyUsage = refl
kind_there kinds.InhibitAnyPolicy = refl
kind_there kinds.AuthorityInfoAccess = refl
kind_there kinds.SubjectInfoAccess = refl
kind_there kinds.SCT = refl
kind_there kinds.NSCertType = refl
kind_there kinds.NsCertComment = refl

pub kind_found : (identifier : List ℕ) (kind : Kind) → identifier ≡ identifier_of kind → kind_of identifier ≡ Some kind
kind_found identifier kind same = ap kind_of same ∙ kind_there kind

-- ---- values

-- what is read is what the relation says
record IsTied (got : Option values.Parsed) (Is : values.Parsed → Type 0) : Type 0 where
  found : (x : values.Parsed) → got ≡ Some x → Is x
  only : (x : values.Parsed) → Is x → got ≡ Some x

was_made : {A : Type 0} (make : A → values.Parsed) (a : Answer (A × List ℕ)) (x : values.Parsed) → made make a ≡ Some x → (v : A × List ℕ) × (a ≡ Ok v) × (x ≡ make v.0)
was_made make (Ok v) x given = let same : make v.0 ≡ x = cc in (v, refl, sym same)
was_made make (Err y) x given = cc

tied : {A : Type 0} (P : Grammar A) (p : Reader A) → IsReading P p → (make : A → values.Parsed) (value : List ℕ) → AllBelowBase 256 value → IsTied (made make (p value)) (Begins P make value)
tied P p reading make value below = record {
  found = λ x given.
      let was = was_made make (p value) x given in
      record { content = was.0.0; rest = was.0.1; begins = (reading.found value was.0.0 was.0.1 below was.1).0; is = was.2 };
  only = λ x is. ap (made make) (reading.only value is.content is.rest below is.begins) ∙ ap (λ z. Some z) (sym is.is);
}

kind_tied : (kind : Kind) (value : List ℕ) → AllBelowBase 256 value → IsTied (value_in kind value) (IsOf kind value)
kind_tied kinds.SubjectKeyIdentifier value below = tied KeyIdentifier key_identifier_at (next_reading IsOctets key_identifier_in key_identifier_meaning) values.subject_key_identifier value below
kind_tied kinds.KeyUsage value below = tied KeyUsage usage_at (next_reading (Leaf 3 AreSixteen) (sixteen_in 3) usage_meaning) values.key_usage value below
kind_tied kinds.SubjectAlternativeName value below = tied AlternativeName alternative_at (next_reading (Holds 16 (ToEnd GeneralName)) alternative_in alternative_meaning) values.subject_alternative_name value below
kind_tied kinds.IssuerAlternativeName value below = tied AlternativeName alternative_at (next_reading (Holds 16 (ToEnd GeneralName)) alternative_in alternative_meaning) values.issuer_alternative_name value below
kind_tied kinds.BasicConstraints value below = tied BasicConstraints constraints_at (constraints_reading) values.basic_constraints value below
kind_tied kinds.CRLNumber value below = tied CRLNumber number_at (number_reading) values.crl_number value below
kind_tied kinds.ReasonCode value below = tied CRLReason reason_at (reason_reading) values.reason_code value below
kind_tied kinds.InvalidityDate value below = tied InvalidityDate date_at (date_reading) values.invalidity_date value below
kind_tied kinds.IssuingDistributionPoint value below = tied IssuingDistributionPoint issuing_at (issuing_reading) values.issuing_distribution_point value below
kind_tied kinds.NameConstraints value below = tied NameConstraints name_constraints_at (next_reading (Holds 16 NameConstraintsParts) name_constraints_in name_constraints_meaning) values.name_constraints value below
kind_tied kinds.CRLDistributionPoints value below = tied CRLDistributionPoints points_at (next_reading (Holds 16 (ToEnd DistributionPoint)) points_in points_meaning) values.crl_distribution_points value below
kind_tied kinds.CertificatePolicies value below = tied CertificatePolicies policies_at (policies_reading) values.certificate_policies value below
kind_tied kinds.PolicyMappings value below = tied PolicyMappings mappings_at (next_reading (HoldsSequence (ToEnd PolicyMapping)) mappings_in mappings_meaning) values.policy_mappings value below
kind_tied kinds.AuthorityKeyIdentifier value below = tied AuthorityKeyIdentifier authority_key_at (next_reading (Holds 16 AuthorityKeyIdentifierParts) authority_key_in authority_key_meaning) values.authority_key_identifier value below
kind_tied kinds.PolicyConstraints value below = tied PolicyConstraints policy_constraints_at (next_reading (Holds 16 PolicyConstraintsParts) policy_constraints_in policy_constraints_meaning) values.policy_constraints value below
kind_tied kinds.ExtendedKeyUsage value below = tied ExtendedKeyUsage purposes_at (next_reading (HoldsSequence ExtendedKeyUsageParts) purposes_in purposes_meaning) values.extended_key_usage value below
kind_tied kinds.InhibitAnyPolicy value below = tied InhibitAnyPolicy inhibit_at (next_reading (Leaf 2 IsNumber) (tagged_number_in 2) (number_meaning 2)) values.inhibit_any_policy value below
kind_tied kinds.AuthorityInfoAccess value below = tied InfoAccess info_access_at (next_reading (Holds 16 (ToEnd AccessDescription)) info_access_in info_access_meaning) values.authority_info_access value below
kind_tied kinds.SubjectInfoAccess value below = tied InfoAccess info_access_at (next_reading (Holds 16 (ToEnd AccessDescription)) info_access_in info_access_meaning) values.subject_info_access value below
kind_tied kinds.SCT value below = tied TimestampList list_at (list_reading) values.sct value below
kind_tied kinds.NSCertType value below = tied NetscapeType netscape_at (next_reading (Leaf 3 AreEight) netscape_in netscape_meaning) values.ns_cert_type value below
kind_tied kinds.NsCertComment value below = tied NetscapeComment comment_at (comment_reading) values.ns_cert_comment value below

-- ---- extensions

read_case : (identifier value : List ℕ) (kind : Kind) → identifier ≡ identifier_of kind → IsTied (value_in kind value) (IsOf kind value) → (o : Option values.Parsed) → value_in kind value ≡ o → IsParsed identifier value (or_error o)
read_case identifier value kind same is None given = is_refused kind same (λ other means. let there = is.only other means in cc) refl
read_case identifier value kind same is (Some x) given = is_read kind same (is.found x given)

kind_case : (identifier value : List ℕ) → AllBelowBase 256 value → (o : Option Kind) → kind_of identifier ≡ o → IsParsed identifier value (by_kind o identifier value)
kind_case identifier value below None given = is_unknown (λ kind same. let there = kind_found identifier kind same in cc) refl
kind_case identifier value below (Some kind) given = read_case identifier value kind (among_is identifier known kind given) (kind_tied kind value below) (value_in kind value) refl

pub deep_found : (identifier value : List ℕ) → AllBelowBase 256 value → IsParsed identifier value (deeply identifier value)
unfolding deeply
deep_found identifier value below = kind_case identifier value below (kind_of identifier) refl

none_read : (kind : Kind) (value : List ℕ) → IsTied (value_in kind value) (IsOf kind value) → ((other : values.Parsed) → IsOf kind value other → ⊥) → (o : Option values.Parsed) → value_in kind value ≡ o → or_error o ≡ values.parse_error
none_read kind value is none None given = refl
none_read kind value is none (Some x) given = absurd (none x (is.found x given))

none_known : (identifier value : List ℕ) → ((kind : Kind) → identifier ≡ identifier_of kind → ⊥) → (o : Option Kind) → kind_of identifier ≡ o → by_kind o identifier value ≡ values.unsupported identifier
none_known identifier value none None given = refl
none_known identifier value none (Some kind) given = absurd (none kind (among_is identifier known kind given))

pub deep_only : (identifier value : List ℕ) (x : values.Parsed) → AllBelowBase 256 value → IsParsed identifier value x → deeply identifier value ≡ x
unfolding deeply
deep_only identifier value x below (is_read kind same is) = ap (λ o. by_kind o identifier value) (kind_found identifier kind same) ∙ ap or_error ((kind_tied kind value below).only x is)
deep_only identifier value x below (is_refused kind same none gives) = ap (λ o. by_kind o identifier value) (kind_found identifier kind same) ∙ none_read kind value (kind_tied kind value below) none (value_in kind value) refl ∙ sym gives
deep_only identifier value x below (is_unknown none gives) = none_known identifier value none (kind_of identifier) refl ∙ sym gives
