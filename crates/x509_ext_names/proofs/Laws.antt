-- The readers of values that are made of general names take what the relations say, and no more.
use Rattle.std.proofs.Common.{◌≡◌, ◌∙◌, refl, sym, ap, subst, ℕ, List, Ok}
use Rattle.std.specs.Int.Digits.{AllBelowBase}
use Rattle.x509_core.specs.Grammar.{One, Holds, Box, AsMany, ToEnd, Maybe}
use Rattle.x509_core.specs.Reading.{content_in, many_of}
use Rattle.x509_core.proofs.Grammars.{IsMeaning, IsReading, next_reading, two}
use Rattle.x509_core.proofs.LeafLaws.{content_found, content_only}
use Rattle.x509_ext_flags.specs.x509_names.specs.Leaves.{IsInteger}
use Rattle.x509_ext_flags.specs.x509_names.specs.Reading.{integer_in}
use Rattle.x509_ext_flags.specs.x509_names.proofs.LeafLaws.{integer_meaning}
use Rattle.x509_items.specs.Grammar.{OneOrMore}
use Rattle.x509_items.specs.Reading.{maybe_of, some_of, ended, all_of, oid_at}
use Rattle.x509_items.proofs.Readings.{held_meaning, many_reading, some_reading, all_reading, ended_reading, maybe_reading, oid_reading}
use Rattle.x509_ext_names.specs.Extensions.{IsTagged, AuthorityKeyIdentifierParts, GeneralSubtree, GeneralSubtrees, NameConstraintsParts, AccessParts, AccessDescription}
use Rattle.x509_ext_names.specs.Names.{IsGeneralName, GeneralName}
use Rattle.x509_ext_names.specs.Reading.{general_name_in, general_name_at, alternative_in, many_names_at, some_names_at, tagged_at, serial_at, authority_key_parts_at, authority_key_in, subtree_in, subtree_at, subtrees_in, subtrees_at, name_constraints_parts_at, name_constraints_in, access_parts_at, access_in, access_at, info_access_in}
use Rattle.x509_ext_names.specs.Values as values
use Rattle.x509_ext_names.proofs.NameLaws.{general_name_meaning}

pub name_reading : IsReading GeneralName general_name_at
name_reading = next_reading IsGeneralName general_name_in general_name_meaning

pub alternative_meaning : IsMeaning (Holds 16 (ToEnd GeneralName)) alternative_in
alternative_meaning = held_meaning 16 (ToEnd GeneralName) (ended (all_of general_name_at)) (all_reading IsGeneralName general_name_in general_name_meaning)

-- names under a tag number
pub many_names_reading : (tag : ℕ) → IsReading (Box tag (AsMany GeneralName)) (many_names_at tag)
many_names_reading tag =
    next_reading (Holds tag (AsMany GeneralName)) _ (held_meaning tag (AsMany GeneralName) (λ i. Ok (many_of general_name_at i)) (many_reading IsGeneralName general_name_in general_name_meaning))

pub names_reading : IsReading (OneOrMore GeneralName) (some_of general_name_at)
names_reading = some_reading IsGeneralName general_name_in general_name_meaning

pub some_names_reading : (tag : ℕ) → IsReading (Box tag (OneOrMore GeneralName)) (some_names_at tag)
some_names_reading tag = next_reading (Holds tag (OneOrMore GeneralName)) _ (held_meaning tag (OneOrMore GeneralName) (some_of general_name_at) names_reading)

-- ---- the issuer's key

tagged_meaning : (n : ℕ) → IsMeaning (IsTagged n) (λ p. content_in n p.element)
tagged_meaning n = record {
  found = λ q v spells below given. let is = content_found n q.element v given in record { tag = is.0; value = sym is.1 };
  only = λ q v spells below is. content_only n q.element is.tag ∙ ap (λ z. Ok z) (sym is.value);
}

key_reading : IsReading (Maybe (One (IsTagged 0))) (λ i. Ok (maybe_of (tagged_at 0) i))
key_reading = maybe_reading (One (IsTagged 0)) (tagged_at 0) (next_reading (IsTagged 0) _ (tagged_meaning 0))

issuer_reading : IsReading (Maybe (Box 1 (AsMany GeneralName))) (λ i. Ok (maybe_of (many_names_at 1) i))
issuer_reading = maybe_reading (Box 1 (AsMany GeneralName)) (many_names_at 1) (many_names_reading 1)

serial_reading : IsReading (Maybe (One IsInteger)) (λ i. Ok (maybe_of serial_at i))
serial_reading = maybe_reading (One IsInteger) serial_at (next_reading IsInteger (λ p. integer_in p.element) integer_meaning)

authority_key_parts_reading : IsReading AuthorityKeyIdentifierParts authority_key_parts_at
unfolding authority_key_parts_at
authority_key_parts_reading = record {
  found = λ i v r below given.
      let key = maybe_of (tagged_at 0) i in
      let issuer = maybe_of (many_names_at 1) key.1 in
      let serial = maybe_of serial_at issuer.1 in
      let first = key_reading.found i key.0 key.1 below refl in
      let second = issuer_reading.found key.1 issuer.0 issuer.1 first.1 refl in
      let third = serial_reading.found issuer.1 serial.0 serial.1 second.1 refl in
      let here : values.AuthorityKeyIdentifier = record { key_identifier = key.0; authority_cert_issuer = issuer.0; authority_cert_serial = serial.0 } in
      let both : ◌≡◌ {A = values.AuthorityKeyIdentifier × List ℕ} (here, serial.1) (v, r) = cc in
      let parts : AuthorityKeyIdentifierParts i here serial.1 = record { after_key = key.1; key_identifier = first.0; after_issuer = issuer.1; authority_cert_issuer = second.0; authority_cert_serial = third.0 } in
      subst (λ (z : values.AuthorityKeyIdentifier × List ℕ). AuthorityKeyIdentifierParts i z.0 z.1 × AllBelowBase 256 z.1) both (parts, third.1);
  only = λ i v r below is.
      let first = key_reading.only i v.key_identifier is.after_key below is.key_identifier in
      let after_key = (key_reading.found i v.key_identifier is.after_key below first).1 in
      let second = issuer_reading.only is.after_key v.authority_cert_issuer is.after_issuer after_key is.authority_cert_issuer in
      let after_issuer = (issuer_reading.found is.after_key v.authority_cert_issuer is.after_issuer after_key second).1 in
      let third = serial_reading.only is.after_issuer v.authority_cert_serial r after_issuer is.authority_cert_serial in
      let key : maybe_of (tagged_at 0) i ≡ (v.key_identifier, is.after_key) = cc in
      let issuer : maybe_of (many_names_at 1) is.after_key ≡ (v.authority_cert_issuer, is.after_issuer) = cc in
      let serial : maybe_of serial_at is.after_issuer ≡ (v.authority_cert_serial, r) = cc in
      rw (key, issuer, serial) refl;
}

pub authority_key_meaning : IsMeaning (Holds 16 AuthorityKeyIdentifierParts) authority_key_in
authority_key_meaning = held_meaning 16 AuthorityKeyIdentifierParts authority_key_parts_at authority_key_parts_reading

-- ---- subtrees

subtree_meaning : IsMeaning (Holds 16 GeneralName) subtree_in
subtree_meaning = held_meaning 16 GeneralName general_name_at name_reading

subtrees_reading : (tag : ℕ) → IsReading (Maybe (Box tag GeneralSubtrees)) (λ i. Ok (maybe_of (subtrees_at tag) i))
subtrees_reading tag =
    maybe_reading (Box tag GeneralSubtrees) (subtrees_at tag) (next_reading (Holds tag GeneralSubtrees) _
    (held_meaning tag GeneralSubtrees (ended subtrees_in) (ended_reading (OneOrMore GeneralSubtree) (some_of subtree_at) (some_reading (Holds 16 GeneralName) subtree_in subtree_meaning))))

name_constraints_parts_reading : IsReading NameConstraintsParts name_constraints_parts_at
unfolding name_constraints_parts_at
name_constraints_parts_reading = record {
  found = λ i v r below given.
      let permitted = maybe_of (subtrees_at 0) i in
      let excluded = maybe_of (subtrees_at 1) permitted.1 in
      let first = (subtrees_reading 0).found i permitted.0 permitted.1 below refl in
      let second = (subtrees_reading 1).found permitted.1 excluded.0 excluded.1 first.1 refl in
      let here : values.NameConstraints = record { permitted_subtrees = permitted.0; excluded_subtrees = excluded.0 } in
      let both : ◌≡◌ {A = values.NameConstraints × List ℕ} (here, excluded.1) (v, r) = cc in
      let parts : NameConstraintsParts i here excluded.1 = record { after_permitted = permitted.1; permitted_subtrees = first.0; excluded_subtrees = second.0 } in
      subst (λ (z : values.NameConstraints × List ℕ). NameConstraintsParts i z.0 z.1 × AllBelowBase 256 z.1) both (parts, second.1);
  only = λ i v r below is.
      let first = (subtrees_reading 0).only i v.permitted_subtrees is.after_permitted below is.permitted_subtrees in
      let after = ((subtrees_reading 0).found i v.permitted_subtrees is.after_permitted below first).1 in
      let second = (subtrees_reading 1).only is.after_permitted v.excluded_subtrees r after is.excluded_subtrees in
      let permitted : maybe_of (subtrees_at 0) i ≡ (v.permitted_subtrees, is.after_permitted) = cc in
      let excluded : maybe_of (subtrees_at 1) is.after_permitted ≡ (v.excluded_subtrees, r) = cc in
      rw (permitted, excluded) refl;
}

pub name_constraints_meaning : IsMeaning (Holds 16 NameConstraintsParts) name_constraints_in
name_constraints_meaning = held_meaning 16 NameConstraintsParts name_constraints_parts_at name_constraints_parts_reading

-- ---- access

access_parts_reading : IsReading AccessParts access_parts_at
unfolding access_parts_at
access_parts_reading = record {
  found = λ i v r below given.
      let method = two (oid_at i) _ (v, r) given in
      let first = oid_reading.found i method.0.0 method.0.1 below method.1 in
      let location = two (general_name_at method.0.1) _ (v, r) method.2 in
      let second = name_reading.found method.0.1 location.0.0 location.0.1 first.1 location.1 in
      let here : values.AccessDescription = record { access_method = method.0.0; access_location = location.0.0 } in
      let both : ◌≡◌ {A = values.AccessDescription × List ℕ} (here, location.0.1) (v, r) = cc in
      let parts : AccessParts i here location.0.1 = record { after_method = method.0.1; access_method = first.0; access_location = second.0 } in
      subst (λ (z : values.AccessDescription × List ℕ). AccessParts i z.0 z.1 × AllBelowBase 256 z.1) both (parts, second.1);
  only = λ i v r below is.
      let method = oid_reading.only i v.access_method is.after_method below is.access_method in
      let after = (oid_reading.found i v.access_method is.after_method below method).1 in
      let location = name_reading.only is.after_method v.access_location r after is.access_location in
      rw (method, location) refl;
}

pub access_meaning : IsMeaning (Holds 16 AccessParts) access_in
access_meaning = held_meaning 16 AccessParts access_parts_at access_parts_reading

pub info_access_meaning : IsMeaning (Holds 16 (ToEnd AccessDescription)) info_access_in
info_access_meaning = held_meaning 16 (ToEnd AccessDescription) (ended (all_of access_at)) (all_reading (Holds 16 AccessParts) access_in access_meaning)
