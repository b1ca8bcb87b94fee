-- The readers of distribution points take what the relations say, and no more.
use Rattle.std.proofs.Common.{◌≡◌, ◌∙◌, refl, sym, ap, subst, ℕ, ◌==◌, Bool, true, false, List, [], ◌∷◌, Ok, inl, inr, ◌⊎◌, not}
use Rattle.std.specs.Int.Digits.{AllBelowBase}
use Rattle.asn1_core.proofs.Cases.{chosen}
use Rattle.asn1_traits.specs.Booleans.{BooleanMeans}
use Rattle.x509_core.specs.Grammar.{One, Holds, Box, ToEnd, Maybe}
use Rattle.x509_core.specs.Leaves.{Leaf}
use Rattle.x509_core.specs.Reading.{front_header_at}
use Rattle.x509_core.proofs.Grammars.{IsMeaning, IsReading, next_reading, two}
use Rattle.x509_core.proofs.LeafLaws.{equal_tags, leaf_meaning}
use Rattle.x509_ext_names.specs.x509_names.specs.Names.{RelativeDistinguishedName, RelativeParts}
use Rattle.x509_ext_names.specs.x509_names.specs.Reading.{relative_name_in, relative_name_at}
use Rattle.x509_ext_names.specs.x509_names.proofs.NameLaws.{relative_meaning}
use Rattle.x509_ext_names.specs.x509_ext_flags.specs.Flags.{AreSixteen}
use Rattle.x509_ext_names.specs.x509_ext_flags.specs.Reading.{sixteen_in}
use Rattle.x509_ext_names.specs.x509_ext_flags.proofs.Laws.{sixteen_meaning}
use Rattle.x509_items.specs.Reading.{held, maybe_of, some_of, ended, all_of}
use Rattle.x509_items.specs.Grammar.{or_false}
use Rattle.x509_items.proofs.HeaderLaws.{front_header_found, front_header_only}
use Rattle.x509_items.proofs.Readings.{held_meaning, all_reading, maybe_reading}
use Rattle.x509_ext_names.specs.Names.{GeneralNames}
use Rattle.x509_ext_names.specs.Reading.{general_name_at, some_names_at}
use Rattle.x509_ext_names.proofs.Laws.{names_reading, some_names_reading}
use Rattle.x509_ext_points.specs.Points.{BehindHeader, PointName, DistributionPointParts, DistributionPoint, IsTruth, Flag, IssuingParts, IssuingDistributionPoint}
use Rattle.x509_ext_points.specs.Points as points
use Rattle.x509_ext_points.specs.Reading.{full_name_at, relative_at, name_behind, point_name_at, boxed_name_at, reasons_at, point_parts_at, point_in, point_at, points_in, truth_of, truth_in, truth_at, flag_at, issuing_parts_at, issuing_in, issuing_at}
use Rattle.x509_ext_points.specs.Values as values

-- ---- names

relative_reading : IsReading RelativeDistinguishedName relative_name_at
relative_reading = next_reading (Holds 17 RelativeParts) (λ p. relative_name_in p.element) relative_meaning

full_found : (i after : List ℕ) (n : values.PointName) (r : List ℕ) → AllBelowBase 256 after → BehindHeader 0 i after → full_name_at after ≡ Ok (n, r) → PointName i n r × AllBelowBase 256 r
full_found i after n r below header given =
    let names = two (some_of general_name_at after) _ (n, r) given in
    let is = names_reading.found after names.0.0 names.0.1 below names.1 in
    let both : ◌≡◌ {A = values.PointName × List ℕ} (values.full_name names.0.0, names.0.1) (n, r) = cc in
    subst (λ (z : values.PointName × List ℕ). PointName i z.0 z.1 × AllBelowBase 256 z.1) both (points.full_name after names.0.0 header is.0 refl, is.1)

relative_found : (i after : List ℕ) (n : values.PointName) (r : List ℕ) → AllBelowBase 256 after → BehindHeader 1 i after → relative_at after ≡ Ok (n, r) → PointName i n r × AllBelowBase 256 r
relative_found i after n r below header given =
    let set = two (relative_name_at after) _ (n, r) given in
    let is = relative_reading.found after set.0.0 set.0.1 below set.1 in
    let both : ◌≡◌ {A = values.PointName × List ℕ} (values.relative_name set.0.0, set.0.1) (n, r) = cc in
    subst (λ (z : values.PointName × List ℕ). PointName i z.0 z.1 × AllBelowBase 256 z.1) both (points.relative_name after set.0.0 header is.0 refl, is.1)

point_name_found : (i : List ℕ) (n : values.PointName) (r : List ℕ) → AllBelowBase 256 i → point_name_at i ≡ Ok (n, r) → PointName i n r × AllBelowBase 256 r
unfolding point_name_at
point_name_found i n r below given =
    let step = two (front_header_at i) name_behind (n, r) given in
    let header = front_header_found i step.0.0 step.0.1 below step.1 in
    elim (chosen (step.0.0.tag == 0) _ _ _ step.2) [
      | inl is ↦ full_found i step.0.1 n r header.1 (record { head = step.0.0; header = header.0; tag_is = equal_tags step.0.0.tag 0 is.0 }) is.1
      | inr a ↦ elim (chosen (step.0.0.tag == 1) _ _ _ a.1) [
        | inl is ↦ relative_found i step.0.1 n r header.1 (record { head = step.0.0; header = header.0; tag_is = equal_tags step.0.0.tag 1 is.0 }) is.1
        | inr other ↦ let impossible = other.1 in cc
      ]
    ]

point_name_only : (i : List ℕ) (n : values.PointName) (r : List ℕ) → AllBelowBase 256 i → PointName i n r → point_name_at i ≡ Ok (n, r)
unfolding point_name_at
point_name_only i n r below (points.full_name after names header is same) =
    let read = front_header_only i header.head after header.header in
    let behind = (front_header_found i header.head after below read).1 in
    rw (read, ap (λ t. t == 0) header.tag_is, names_reading.only after names r behind is, same) refl
point_name_only i n r below (points.relative_name after set header is same) =
    let read = front_header_only i header.head after header.header in
    let behind = (front_header_found i header.head after below read).1 in
    rw (read, ap (λ t. t == 0) header.tag_is, ap (λ t. t == 1) header.tag_is, relative_reading.only after set r behind is, same) refl

point_name_reading : IsReading PointName point_name_at
point_name_reading = record { found = point_name_found; only = point_name_only }

boxed_reading : IsReading (Maybe (Box 0 PointName)) (λ i. Ok (maybe_of boxed_name_at i))
boxed_reading = maybe_reading (Box 0 PointName) boxed_name_at (next_reading (Holds 0 PointName) (held 0 point_name_at) (held_meaning 0 PointName point_name_at point_name_reading))

reasons_reading : (tag : ℕ) → IsReading (Maybe (One (Leaf tag AreSixteen))) (λ i. Ok (maybe_of (reasons_at tag) i))
reasons_reading tag = maybe_reading (One (Leaf tag AreSixteen)) (reasons_at tag) (next_reading (Leaf tag AreSixteen) (sixteen_in tag) (sixteen_meaning tag))

-- ---- points

issuers_reading : IsReading (Maybe (Box 2 GeneralNames)) (λ i. Ok (maybe_of (some_names_at 2) i))
issuers_reading = maybe_reading (Box 2 GeneralNames) (some_names_at 2) (some_names_reading 2)

point_parts_reading : IsReading DistributionPointParts point_parts_at
unfolding point_parts_at
point_parts_reading = record {
  found = λ i v r below given.
      let name = maybe_of boxed_name_at i in
      let reasons = maybe_of (reasons_at 1) name.1 in
      let issuer = maybe_of (some_names_at 2) reasons.1 in
      let first = boxed_reading.found i name.0 name.1 below refl in
      let second = (reasons_reading 1).found name.1 reasons.0 reasons.1 first.1 refl in
      let third = issuers_reading.found reasons.1 issuer.0 issuer.1 second.1 refl in
      let here : values.DistributionPoint = record { distribution_point = name.0; reasons = reasons.0; crl_issuer = issuer.0 } in
      let both : ◌≡◌ {A = values.DistributionPoint × List ℕ} (here, issuer.1) (v, r) = cc in
      let parts : DistributionPointParts i here issuer.1 = record { after_point = name.1; distribution_point = first.0; after_reasons = reasons.1; reasons = second.0; crl_issuer = third.0 } in
      subst (λ (z : values.DistributionPoint × List ℕ). DistributionPointParts i z.0 z.1 × AllBelowBase 256 z.1) both (parts, third.1);
  only = λ i v r below is.
      let first = boxed_reading.only i v.distribution_point is.after_point below is.distribution_point in
      let after_point = (boxed_reading.found i v.distribution_point is.after_point below first).1 in
      let second = (reasons_reading 1).only is.after_point v.reasons is.after_reasons after_point is.reasons in
      let after_reasons = ((reasons_reading 1).found is.after_point v.reasons is.after_reasons after_point second).1 in
      let third = issuers_reading.only is.after_reasons v.crl_issuer r after_reasons is.crl_issuer in
      let name : maybe_of boxed_name_at i ≡ (v.distribution_point, is.after_point) = cc in
      let reasons : maybe_of (reasons_at 1) is.after_point ≡ (v.reasons, is.after_reasons) = cc in
      let issuer : maybe_of (some_names_at 2) is.after_reasons ≡ (v.crl_issuer, r) = cc in
      rw (name, reasons, issuer) refl;
}

point_meaning : IsMeaning (Holds 16 DistributionPointParts) point_in
point_meaning = held_meaning 16 DistributionPointParts point_parts_at point_parts_reading

pub points_meaning : IsMeaning (Holds 16 (ToEnd DistributionPoint)) points_in
points_meaning = held_meaning 16 (ToEnd DistributionPoint) (ended (all_of point_at)) (all_reading (Holds 16 DistributionPointParts) point_in point_meaning)

-- ---- flags

truth_found : (c : List ℕ) (b : Bool) → truth_of c ≡ Ok b → IsTruth c b
truth_found [] b given = cc
truth_found (x ∷ []) b given =
    elim (chosen (x == 0) _ _ _ given) [
      | inl is ↦
          let zero : x ≡ 0 = equal_tags x 0 is.0 in
          let same : false ≡ b = cc in
          subst (λ z. IsTruth (z ∷ []) b) (sym zero) (subst (IsTruth (0 ∷ [])) same (record { strict = inl refl; means = record { octet = 0; whole = refl; value = refl } }))
      | inr a ↦ elim (chosen (x == 255) _ _ _ a.1) [
        | inl is ↦
            let ones : x ≡ 255 = equal_tags x 255 is.0 in
            let same : true ≡ b = cc in
            subst (λ z. IsTruth (z ∷ []) b) (sym ones) (subst (IsTruth (255 ∷ [])) same (record { strict = inr refl; means = record { octet = 255; whole = refl; value = refl } }))
        | inr other ↦ let impossible = other.1 in cc
      ]
    ]
truth_found (x ∷ y ∷ s) b given = cc

truth_by : (c : List ℕ) (b : Bool) → (c ≡ 0 ∷ []) ⊎ (c ≡ 255 ∷ []) → BooleanMeans c b → truth_of c ≡ Ok b
truth_by c b (inl zero) means =
    let both : means.octet ∷ [] ≡ 0 ∷ [] = sym means.whole ∙ zero in
    let octet : means.octet ≡ 0 = cc in
    let value : b ≡ false = means.value ∙ ap (λ o. not (o == 0)) octet in
    rw (zero, value) refl
truth_by c b (inr ones) means =
    let both : means.octet ∷ [] ≡ 255 ∷ [] = sym means.whole ∙ ones in
    let octet : means.octet ≡ 255 = cc in
    let value : b ≡ true = means.value ∙ ap (λ o. not (o == 0)) octet in
    rw (ones, value) refl

truth_only : (c : List ℕ) (b : Bool) → IsTruth c b → truth_of c ≡ Ok b
truth_only c b is = truth_by c b is.strict is.means

truth_meaning : (n : ℕ) → IsMeaning (Leaf n IsTruth) (λ p. truth_in n p.element)
truth_meaning n = leaf_meaning n IsTruth truth_of truth_found truth_only

truth_reading : (n : ℕ) → IsReading (Maybe (One (Leaf n IsTruth))) (λ i. Ok (maybe_of (truth_at n) i))
truth_reading n = maybe_reading (One (Leaf n IsTruth)) (truth_at n) (next_reading (Leaf n IsTruth) (λ p. truth_in n p.element) (truth_meaning n))

flag_found : (n : ℕ) (i : List ℕ) → AllBelowBase 256 i → Flag n i (flag_at n i).0 (flag_at n i).1 × AllBelowBase 256 (flag_at n i).1
flag_found n i below =
    let flag = maybe_of (truth_at n) i in
    let is = (truth_reading n).found i flag.0 flag.1 below refl in
    (record { written = flag.0; there = is.0; value = refl }, is.1)

flag_raw : (n : ℕ) (i : List ℕ) (b : Bool) (r : List ℕ) (is : Flag n i b r) → AllBelowBase 256 i → maybe_of (truth_at n) i ≡ (is.written, r)
flag_raw n i b r is below = let read = (truth_reading n).only i is.written r below is.there in cc

flag_below : (n : ℕ) (i : List ℕ) (b : Bool) (r : List ℕ) → Flag n i b r → AllBelowBase 256 i → AllBelowBase 256 r
flag_below n i b r is below = ((truth_reading n).found i is.written r below ((truth_reading n).only i is.written r below is.there)).1

-- ---- issuing points

issuing_parts_reading : IsReading IssuingParts issuing_parts_at
unfolding issuing_parts_at
issuing_parts_reading = record {
  found = λ i v r below given.
      let name = maybe_of boxed_name_at i in
      let first = boxed_reading.found i name.0 name.1 below refl in
      let user = flag_found 1 name.1 first.1 in
      let after_user = (flag_at 1 name.1).1 in
      let ca = flag_found 2 after_user user.1 in
      let after_ca = (flag_at 2 after_user).1 in
      let reasons = maybe_of (reasons_at 3) after_ca in
      let fourth = (reasons_reading 3).found after_ca reasons.0 reasons.1 ca.1 refl in
      let indirect = flag_found 4 reasons.1 fourth.1 in
      let after_indirect = (flag_at 4 reasons.1).1 in
      let attribute = flag_found 5 after_indirect indirect.1 in
      let rest = (flag_at 5 after_indirect).1 in
      let here : values.IssuingDistributionPoint = record {
        distribution_point = name.0;
        only_contains_user_certs = (flag_at 1 name.1).0;
        only_contains_ca_certs = (flag_at 2 after_user).0;
        only_some_reasons = reasons.0;
        indirect_crl = (flag_at 4 reasons.1).0;
        only_contains_attribute_certs = (flag_at 5 after_indirect).0;
      } in
      let both : ◌≡◌ {A = values.IssuingDistributionPoint × List ℕ} (here, rest) (v, r) = cc in
      let parts : IssuingParts i here rest = record {
        after_point = name.1;
        distribution_point = first.0;
        after_user = after_user;
        only_contains_user_certs = user.0;
        after_ca = after_ca;
        only_contains_ca_certs = ca.0;
        after_reasons = reasons.1;
        only_some_reasons = fourth.0;
        after_indirect = after_indirect;
        indirect_crl = indirect.0;
        only_contains_attribute_certs = attribute.0;
      } in
      subst (λ (z : values.IssuingDistributionPoint × List ℕ). IssuingParts i z.0 z.1 × AllBelowBase 256 z.1) both (parts, attribute.1);
  only = λ i v r below is.
      let first = boxed_reading.only i v.distribution_point is.after_point below is.distribution_point in
      let after_point = (boxed_reading.found i v.distribution_point is.after_point below first).1 in
      let user = is.only_contains_user_certs in
      let after_user = flag_below 1 is.after_point v.only_contains_user_certs is.after_user user after_point in
      let ca = is.only_contains_ca_certs in
      let after_ca = flag_below 2 is.after_user v.only_contains_ca_certs is.after_ca ca after_user in
      let fourth = (reasons_reading 3).only is.after_ca v.only_some_reasons is.after_reasons after_ca is.only_some_reasons in
      let after_reasons = ((reasons_reading 3).found is.after_ca v.only_some_reasons is.after_reasons after_ca fourth).1 in
      let indirect = is.indirect_crl in
      let after_indirect = flag_below 4 is.after_reasons v.indirect_crl is.after_indirect indirect after_reasons in
      let attribute = is.only_contains_attribute_certs in
      let name : maybe_of boxed_name_at i ≡ (v.distribution_point, is.after_point) = cc in
      let reasons : maybe_of (reasons_at 3) is.after_ca ≡ (v.only_some_reasons, is.after_reasons) = cc in
      rw (
        name,
        flag_raw 1 is.after_point v.only_contains_user_certs is.after_user user after_point,
        flag_raw 2 is.after_user v.only_contains_ca_certs is.after_ca ca after_user,
        reasons,
        flag_raw 4 is.after_reasons v.indirect_crl is.after_indirect indirect after_reasons,
        flag_raw 5 is.after_indirect v.only_contains_attribute_certs r attribute after_indirect,
        sym user.value,
        sym ca.value,
        sym indirect.value,
        sym attribute.value,
      ) refl;
}

issuing_meaning : IsMeaning (Holds 16 IssuingParts) issuing_in
issuing_meaning = held_meaning 16 IssuingParts issuing_parts_at issuing_parts_reading

pub issuing_reading : IsReading IssuingDistributionPoint issuing_at
issuing_reading = next_reading (Holds 16 IssuingParts) issuing_in issuing_meaning
