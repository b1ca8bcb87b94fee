-- The readers of policies take what the relations say, and no more.
use Rattle.std.proofs.Common.{◌≡◌, refl, subst, ℕ, List, [], Ok}
use Rattle.std.specs.Int.Digits.{AllBelowBase}
use Rattle.x509_core.specs.Grammar.{Holds, Box, ToEnd, Maybe}
use Rattle.x509_core.proofs.Grammars.{IsMeaning, IsReading, next_reading, two}
use Rattle.x509_items.specs.Grammar.{OneOrMore, HoldsSequence}
use Rattle.x509_items.specs.Reading.{maybe_of, some_of, ended, all_of, oid_at}
use Rattle.x509_items.proofs.Readings.{held_meaning, sequence_meaning, some_reading, all_reading, maybe_reading, oid_reading}
use Rattle.x509_ext_policies.specs.Policies.{PolicyQualifierParts, PolicyQualifierInfo, PolicyParts, PolicyInformation, CertificatePolicies, MappingParts, PolicyMapping}
use Rattle.x509_ext_policies.specs.Reading.{qualifier_parts_at, qualifier_in, qualifier_at, qualifiers_at, policy_parts_at, policy_in, policy_at, policies_in, policies_at, mapping_parts_at, mapping_in, mapping_at, mappings_in}
use Rattle.x509_ext_policies.specs.Values as values

qualifier_parts_reading : IsReading PolicyQualifierParts (ended qualifier_parts_at)
unfolding qualifier_parts_at
qualifier_parts_reading = record {
  found = λ i v r below given.
      let read = two (qualifier_parts_at i) _ (v, r) given in
      let id = two (oid_at i) _ read.0 read.1 in
      let first = oid_reading.found i id.0.0 id.0.1 below id.1 in
      let here : values.PolicyQualifierInfo = record { policy_qualifier_id = id.0.0; qualifier = id.0.1 } in
      let same : here ≡ read.0 = cc in
      let both : ◌≡◌ {A = values.PolicyQualifierInfo × List ℕ} (here, []) (v, r) = cc in
      let parts : PolicyQualifierParts i here [] = record { policy_qualifier_id = first.0; all_left = refl } in
      subst (λ (z : values.PolicyQualifierInfo × List ℕ). PolicyQualifierParts i z.0 z.1 × AllBelowBase 256 z.1) both (parts, tt);
  only = λ i v r below is. rw (oid_reading.only i v.policy_qualifier_id v.qualifier below is.policy_qualifier_id, is.all_left) refl;
}

qualifier_meaning : IsMeaning (Holds 16 PolicyQualifierParts) qualifier_in
qualifier_meaning = held_meaning 16 PolicyQualifierParts (ended qualifier_parts_at) qualifier_parts_reading

qualifiers_reading : IsReading (Maybe (Box 16 (OneOrMore PolicyQualifierInfo))) (λ i. Ok (maybe_of qualifiers_at i))
qualifiers_reading =
    maybe_reading (Box 16 (OneOrMore PolicyQualifierInfo)) qualifiers_at (next_reading (Holds 16 (OneOrMore PolicyQualifierInfo)) _
    (held_meaning 16 (OneOrMore PolicyQualifierInfo) (some_of qualifier_at) (some_reading (Holds 16 PolicyQualifierParts) qualifier_in qualifier_meaning)))

policy_parts_reading : IsReading PolicyParts policy_parts_at
unfolding policy_parts_at
policy_parts_reading = record {
  found = λ i v r below given.
      let id = two (oid_at i) _ (v, r) given in
      let first = oid_reading.found i id.0.0 id.0.1 below id.1 in
      let qualifiers = maybe_of qualifiers_at id.0.1 in
      let second = qualifiers_reading.found id.0.1 qualifiers.0 qualifiers.1 first.1 refl in
      let here : values.PolicyInformation = record { policy_id = id.0.0; policy_qualifiers = qualifiers.0 } in
      let both : ◌≡◌ {A = values.PolicyInformation × List ℕ} (here, qualifiers.1) (v, r) = cc in
      let parts : PolicyParts i here qualifiers.1 = record { after_id = id.0.1; policy_id = first.0; policy_qualifiers = second.0 } in
      subst (λ (z : values.PolicyInformation × List ℕ). PolicyParts i z.0 z.1 × AllBelowBase 256 z.1) both (parts, second.1);
  only = λ i v r below is.
      let id = oid_reading.only i v.policy_id is.after_id below is.policy_id in
      let after = (oid_reading.found i v.policy_id is.after_id below id).1 in
      let read = qualifiers_reading.only is.after_id v.policy_qualifiers r after is.policy_qualifiers in
      let qualifiers : maybe_of qualifiers_at is.after_id ≡ (v.policy_qualifiers, r) = cc in
      rw (id, qualifiers) refl;
}

policy_meaning : IsMeaning (Holds 16 PolicyParts) policy_in
policy_meaning = held_meaning 16 PolicyParts policy_parts_at policy_parts_reading

pub policies_meaning : IsMeaning (Holds 16 (ToEnd PolicyInformation)) policies_in
policies_meaning = held_meaning 16 (ToEnd PolicyInformation) (ended (all_of policy_at)) (all_reading (Holds 16 PolicyParts) policy_in policy_meaning)

pub policies_reading : IsReading CertificatePolicies policies_at
policies_reading = next_reading (Holds 16 (ToEnd PolicyInformation)) policies_in policies_meaning

mapping_parts_reading : IsReading MappingParts mapping_parts_at
unfolding mapping_parts_at
mapping_parts_reading = record {
  found = λ i v r below given.
      let issuer = two (oid_at i) _ (v, r) given in
      let first = oid_reading.found i issuer.0.0 issuer.0.1 below issuer.1 in
      let subject = two (oid_at issuer.0.1) _ (v, r) issuer.2 in
      let second = oid_reading.found issuer.0.1 subject.0.0 subject.0.1 first.1 subject.1 in
      let here : values.PolicyMapping = record { issuer_domain_policy = issuer.0.0; subject_domain_policy = subject.0.0 } in
      let both : ◌≡◌ {A = values.PolicyMapping × List ℕ} (here, subject.0.1) (v, r) = cc in
      let parts : MappingParts i here subject.0.1 = record { after_issuer = issuer.0.1; issuer_domain_policy = first.0; subject_domain_policy = second.0 } in
      subst (λ (z : values.PolicyMapping × List ℕ). MappingParts i z.0 z.1 × AllBelowBase 256 z.1) both (parts, second.1);
  only = λ i v r below is.
      let issuer = oid_reading.only i v.issuer_domain_policy is.after_issuer below is.issuer_domain_policy in
      let after = (oid_reading.found i v.issuer_domain_policy is.after_issuer below issuer).1 in
      let subject = oid_reading.only is.after_issuer v.subject_domain_policy r after is.subject_domain_policy in
      rw (issuer, subject) refl;
}

pub mapping_meaning : IsMeaning (HoldsSequence MappingParts) mapping_in
mapping_meaning = sequence_meaning MappingParts mapping_parts_at mapping_parts_reading

pub mappings_meaning : IsMeaning (HoldsSequence (ToEnd PolicyMapping)) mappings_in
mappings_meaning = sequence_meaning (ToEnd PolicyMapping) (ended (all_of mapping_at)) (all_reading (HoldsSequence MappingParts) mapping_in mapping_meaning)
