-- Key identifiers that differ, as an example.
use Rattle.std.proofs.Common.{◌≡◌, ap, refl, ℕ, true, false, List, [], ◌∷◌, arith, get_or, lit<, lit≤}
use Rattle.asn1_core.specs.Elements.{Element}
use Rattle.der_tree.specs.Object.{IsDerObject}
use Rattle.der_tree.specs.Table.{sequence, raw}
use Rattle.cert_model.specs.Octets.{name_octets, key_octets}
use Rattle.cert_model.specs.Extended.{IsWithout, authority_key_identifier, subject_key_identifier}
use Rattle.cert_model.specs.KeyIds.{IsAuthorityKeyId, IsSubjectKeyId}
use Rattle.cert_model.specs.Examples.{key}
use Rattle.cert_judge.specs.ItemGraph.{KeyIdsAgree}
use Rattle.cert_judge.specs.Examples.{certificate_item, extension, vouching_for_all}
use Rattle.cert_judge.proofs.Examples.{none}
use Rattle.cert_reasons.specs.declared.links.Unlinked.{Unlinked}
use Rattle.cert_reasons.specs.declared.links.Unlinked.TheVariants.{NotVouched, KeyIdsDiffer, RevokedBy, NoUsedList}
use Rattle.cert_reasons.specs.Order.{AreAll}
use Rattle.cert_reasons.specs.Links.{HasLinkReason, link_order}
use Rattle.cert_reasons.specs.Examples.{key_identifier_one, naming_key_one, having_key_two}
use Rattle.cert_reasons.proofs.Worked.{one_reason, no_used}

abbrev outer : Element
outer = record { class = 0; constructed = true; tag = 16; content = 0x80 ∷ 0x01 ∷ 0x01 ∷ [] }

abbrev inner : Element
inner = record { class = 2; constructed = false; tag = 0; content = 0x01 ∷ [] }

is_object : IsDerObject 50 key_identifier_one
unfolding IsDerObject
is_object = (
  outer,
  record { in_range = record { class = lit< tt; tag = lit< tt; size = lit< tt }; size = lit≤ tt; octets = refl },
  sequence (record { class = refl; constructed = refl; tag = refl }) (
    (0x80 ∷ 0x01 ∷ 0x01 ∷ []) ∷ [],
    ((inner, record { in_range = record { class = lit< tt; tag = lit< tt; size = lit< tt }; size = lit≤ tt; octets = refl }, raw (λ same. absurd (omega arith))), tt),
    refl,
  ),
)

names_one : IsAuthorityKeyId naming_key_one (1 ∷ [])
unfolding IsWithout
names_one = record {
  value = key_identifier_one;
  stands = record { front = []; extension = extension authority_key_identifier false key_identifier_one; back = []; place = refl; under = refl; first = none _; value_is = refl };
  object = is_object;
  spelled = ([], refl);
}

has_two : IsSubjectKeyId having_key_two (2 ∷ [])
unfolding IsWithout
has_two = record {
  value = 0x04 ∷ 0x01 ∷ 0x02 ∷ [];
  stands = record { front = []; extension = extension subject_key_identifier false (0x04 ∷ 0x01 ∷ 0x02 ∷ []); back = []; place = refl; under = refl; first = none _; value_is = refl };
  spelled = refl;
}

differ : KeyIdsAgree naming_key_one having_key_two → ⊥
differ same = let e = ap (λ (s : List ℕ). get_or s 0 0) (same (1 ∷ []) (2 ∷ []) names_one has_two) in omega arith

keys_only : (r : Unlinked) → HasLinkReason (vouching_for_all false) (certificate_item naming_key_one ∷ []) (certificate_item naming_key_one) naming_key_one (name_octets []) (key_octets key) (KeyIdsAgree naming_key_one having_key_two) r → KeyIdsDiffer ≡ r
keys_only NotVouched h = absurd (h tt)
keys_only KeyIdsDiffer h = refl
keys_only (RevokedBy k) h = absurd (no_used (vouching_for_all false) naming_key_one _ _ _ k h)
keys_only NoUsedList h = let d = h.0 in absurd (cc)

pub keys_differ : AreAll link_order (HasLinkReason (vouching_for_all false) (certificate_item naming_key_one ∷ []) (certificate_item naming_key_one) naming_key_one (name_octets []) (key_octets key) (KeyIdsAgree naming_key_one having_key_two)) (KeyIdsDiffer ∷ [])
keys_differ =
    one_reason link_order (HasLinkReason (vouching_for_all false) (certificate_item naming_key_one ∷ []) (certificate_item naming_key_one) naming_key_one (name_octets []) (key_octets key) (KeyIdsAgree naming_key_one having_key_two)) KeyIdsDiffer differ keys_only

-- the key identifier of an anchor is not looked at
pub anchor_linked : (r : Unlinked) → HasLinkReason (vouching_for_all false) (certificate_item naming_key_one ∷ []) (certificate_item naming_key_one) naming_key_one (name_octets []) (key_octets key) (Unit {0}) r → ⊥
anchor_linked NotVouched h = h tt
anchor_linked KeyIdsDiffer h = h tt
anchor_linked (RevokedBy k) h = no_used (vouching_for_all false) naming_key_one _ _ _ k h
anchor_linked NoUsedList h = let d = h.0 in cc
