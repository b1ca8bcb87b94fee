-- The readers of parameters and signature values take what the relations say, and no more.
use Rattle.std.proofs.Common.{◌≡◌, ◌∙◌, refl, sym, ap, subst, ℕ, Bool, true, false, List, [], Option, ◌⊎◌, inl, inr, Ok, Err, if◌then◌else◌}
use Rattle.std.specs.Int.Digits.{AllBelowBase}
use Rattle.asn1_core.proofs.Cases.{chosen}
use Rattle.asn1_core.specs.Elements.{Element}
use Rattle.x509_core.specs.Answers.{Answer, unnamed, ◌>>=◌}
use Rattle.x509_core.specs.Grammar.{Grammar, One, Holds}
use Rattle.x509_core.specs.Leaves.{Leaf}
use Rattle.x509_core.specs.Reading.{Reader, content_in, next}
use Rattle.x509_core.proofs.Grammars.{IsMeaning, IsReading, two, next_reading, content_below}
use Rattle.x509_core.proofs.LeafLaws.{content_found, content_only}
use Rattle.x509_ext_flags.specs.Numbers.{IsNumber}
use Rattle.x509_ext_flags.specs.Reading.{tagged_number_in}
use Rattle.x509_ext_flags.proofs.Laws.{number_meaning}
use Rattle.x509_items.specs.Grammar.{HoldsSequence}
use Rattle.x509_items.proofs.Readings.{sequence_meaning}
use Rattle.x509_names.specs.Fields.{Algorithm}
use Rattle.x509_names.specs.Leaves.{IsInteger}
use Rattle.x509_names.specs.Names.{AlgorithmParts, AlgorithmIdentifier}
use Rattle.x509_names.specs.Reading.{integer_in, integer_at, algorithm_in, algorithm_at}
use Rattle.x509_names.proofs.LeafLaws.{integer_meaning}
use Rattle.x509_names.proofs.NameLaws.{algorithm_meaning}
use Rattle.x509_algorithms.specs.Parameters.{Tagged, Explicit, Number, PssParts, OaepParts, Means, IsParameters}
use Rattle.x509_algorithms.specs.Signatures.{EcdsaParts}
use Rattle.x509_algorithms.specs.Reading.{ecdsa_parts_at, ecdsa_in, tagged_at, explicit_by, number_at, pss_parts_at, oaep_parts_at, parameters_of, parameters_in, pss_in, oaep_in}
use Rattle.x509_algorithms.specs.Values as values
use Rattle.x509_algorithms.proofs.TaggedLaws.{tagged_reading, explicit_reading}

integer_reading : IsReading (One IsInteger) integer_at
integer_reading = next_reading IsInteger (λ p. integer_in p.element) integer_meaning

ecdsa_parts_reading : IsReading EcdsaParts ecdsa_parts_at
unfolding ecdsa_parts_at
ecdsa_parts_reading = record {
  found = λ i v z below given.
      let r = two (integer_at i) _ (v, z) given in
      let first = integer_reading.found i r.0.0 r.0.1 below r.1 in
      let s = two (integer_at r.0.1) _ (v, z) r.2 in
      let second = integer_reading.found r.0.1 s.0.0 s.0.1 first.1 s.1 in
      let here : values.EcdsaSigValue = record { r = r.0.0; s = s.0.0 } in
      let both : ◌≡◌ {A = values.EcdsaSigValue × List ℕ} (here, s.0.1) (v, z) = cc in
      let parts : EcdsaParts i here s.0.1 = record { after_r = r.0.1; r = first.0; s = second.0 } in
      subst (λ (x : values.EcdsaSigValue × List ℕ). EcdsaParts i x.0 x.1 × AllBelowBase 256 x.1) both (parts, second.1);
  only = λ i v z below is.
      let r = integer_reading.only i v.r is.after_r below is.r in
      let after = (integer_reading.found i v.r is.after_r below r).1 in
      let s = integer_reading.only is.after_r v.s z after is.s in
      rw (r, s) refl;
}

pub ecdsa_meaning : IsMeaning (HoldsSequence EcdsaParts) ecdsa_in
ecdsa_meaning = sequence_meaning EcdsaParts ecdsa_parts_at ecdsa_parts_reading

-- ---- parameters

algorithm_under : (n : ℕ) → IsReading (Tagged n AlgorithmIdentifier) (tagged_at n algorithm_at)
algorithm_under n = tagged_reading n AlgorithmIdentifier algorithm_at (next_reading (Holds 16 AlgorithmParts) (λ p. algorithm_in p.element) algorithm_meaning)

number_under : (n : ℕ) → IsReading (Explicit n Number) (explicit_by n number_at)
number_under n = explicit_reading n Number number_at (next_reading (Leaf 2 IsNumber) (tagged_number_in 2) (number_meaning 2))

pss_found : (i : List ℕ) (v : values.RsaSsaPssParams) (z : List ℕ) → AllBelowBase 256 i → pss_parts_at i ≡ Ok (v, z) → PssParts i v z × AllBelowBase 256 z
unfolding pss_parts_at
pss_found i v z below given =
    let hash = two (tagged_at 0 algorithm_at i) _ (v, z) given in
    let first = (algorithm_under 0).found i hash.0.0 hash.0.1 below hash.1 in
    let mask = two (tagged_at 1 algorithm_at hash.0.1) _ (v, z) hash.2 in
    let second = (algorithm_under 1).found hash.0.1 mask.0.0 mask.0.1 first.1 mask.1 in
    let salt = two (explicit_by 2 number_at mask.0.1) _ (v, z) mask.2 in
    let third = (number_under 2).found mask.0.1 salt.0.0 salt.0.1 second.1 salt.1 in
    let trailer = two (explicit_by 3 number_at salt.0.1) _ (v, z) salt.2 in
    let fourth = (number_under 3).found salt.0.1 trailer.0.0 trailer.0.1 third.1 trailer.1 in
    let here : values.RsaSsaPssParams = record { hash_alg = hash.0.0; mask_gen_algorithm = mask.0.0; salt_length = salt.0.0; trailer_field = trailer.0.0 } in
    let both : ◌≡◌ {A = values.RsaSsaPssParams × List ℕ} (here, trailer.0.1) (v, z) = cc in
    let parts : PssParts i here trailer.0.1 = record {
      after_hash = hash.0.1;
      hash_alg = first.0;
      after_mask = mask.0.1;
      mask_gen_algorithm = second.0;
      after_salt = salt.0.1;
      salt_length = third.0;
      trailer_field = fourth.0;
    } in
    subst (λ (x : values.RsaSsaPssParams × List ℕ). PssParts i x.0 x.1 × AllBelowBase 256 x.1) both (parts, fourth.1)

pss_only : (i : List ℕ) (v : values.RsaSsaPssParams) (z : List ℕ) → AllBelowBase 256 i → PssParts i v z → pss_parts_at i ≡ Ok (v, z)
unfolding pss_parts_at
pss_only i v z below is =
    let hash = (algorithm_under 0).only i v.hash_alg is.after_hash below is.hash_alg in
    let b1 = ((algorithm_under 0).found i v.hash_alg is.after_hash below hash).1 in
    let mask = (algorithm_under 1).only is.after_hash v.mask_gen_algorithm is.after_mask b1 is.mask_gen_algorithm in
    let b2 = ((algorithm_under 1).found is.after_hash v.mask_gen_algorithm is.after_mask b1 mask).1 in
    let salt = (number_under 2).only is.after_mask v.salt_length is.after_salt b2 is.salt_length in
    let b3 = ((number_under 2).found is.after_mask v.salt_length is.after_salt b2 salt).1 in
    let trailer = (number_under 3).only is.after_salt v.trailer_field z b3 is.trailer_field in
    rw (hash, mask, salt, trailer) refl

oaep_found : (i : List ℕ) (v : values.RsaAesOaepParams) (z : List ℕ) → AllBelowBase 256 i → oaep_parts_at i ≡ Ok (v, z) → OaepParts i v z × AllBelowBase 256 z
unfolding oaep_parts_at
oaep_found i v z below given =
    let hash = two (tagged_at 0 algorithm_at i) _ (v, z) given in
    let first = (algorithm_under 0).found i hash.0.0 hash.0.1 below hash.1 in
    let mask = two (tagged_at 1 algorithm_at hash.0.1) _ (v, z) hash.2 in
    let second = (algorithm_under 1).found hash.0.1 mask.0.0 mask.0.1 first.1 mask.1 in
    let source = two (tagged_at 2 algorithm_at mask.0.1) _ (v, z) mask.2 in
    let third = (algorithm_under 2).found mask.0.1 source.0.0 source.0.1 second.1 source.1 in
    let here : values.RsaAesOaepParams = record { hash_alg = hash.0.0; mask_gen_alg = mask.0.0; p_source_alg = source.0.0 } in
    let both : ◌≡◌ {A = values.RsaAesOaepParams × List ℕ} (here, source.0.1) (v, z) = cc in
    let parts : OaepParts i here source.0.1 = record { after_hash = hash.0.1; hash_alg = first.0; after_mask = mask.0.1; mask_gen_alg = second.0; p_source_alg = third.0 } in
    subst (λ (x : values.RsaAesOaepParams × List ℕ). OaepParts i x.0 x.1 × AllBelowBase 256 x.1) both (parts, third.1)

oaep_only : (i : List ℕ) (v : values.RsaAesOaepParams) (z : List ℕ) → AllBelowBase 256 i → OaepParts i v z → oaep_parts_at i ≡ Ok (v, z)
unfolding oaep_parts_at
oaep_only i v z below is =
    let hash = (algorithm_under 0).only i v.hash_alg is.after_hash below is.hash_alg in
    let b1 = ((algorithm_under 0).found i v.hash_alg is.after_hash below hash).1 in
    let mask = (algorithm_under 1).only is.after_hash v.mask_gen_alg is.after_mask b1 is.mask_gen_alg in
    let b2 = ((algorithm_under 1).found is.after_hash v.mask_gen_alg is.after_mask b1 mask).1 in
    let source = (algorithm_under 2).only is.after_mask v.p_source_alg z b2 is.p_source_alg in
    rw (hash, mask, source) refl

-- ---- elements that hold parameters

pub means_found : {A : Type 0} (P : Grammar A) (p : Reader A) → IsReading P p → (e : Element) (v : A) → AllBelowBase 256 e.content → parameters_of p e ≡ Ok v → Means P e v
means_found P p reading e v below given =
    let content = two (content_in 16 e) _ v given in
    let tag = content_found 16 e content.0 content.1 in
    let read = two (p content.0) _ v content.2 in
    let same : read.0.0 ≡ v = cc in
    let there = (reading.found e.content read.0.0 read.0.1 below (ap p tag.1 ∙ read.1)).0 in
    record { tag = tag.0; left = read.0.1; inner = subst (λ z. P e.content z read.0.1) same there }

pub means_only : {A : Type 0} (P : Grammar A) (p : Reader A) → IsReading P p → (e : Element) (v : A) → AllBelowBase 256 e.content → Means P e v → parameters_of p e ≡ Ok v
means_only P p reading e v below is = rw (content_only 16 e is.tag, reading.only e.content v is.left below is.inner) refl

parameters_meaning : {A : Type 0} (P : Grammar A) (p : Reader A) → IsReading P p → IsMeaning (IsParameters P) (parameters_in p)
parameters_meaning P p reading = record {
  found = λ q v spells below given.
      elim (chosen q.element.constructed _ _ _ given) [
        | inl is ↦ record { constructed = is.0; means = means_found P p reading q.element v (content_below q spells below) is.1 }
        | inr wrong ↦ let impossible = wrong.1 in cc
      ];
  only = λ q v spells below is. rw (is.constructed, means_only P p reading q.element v (content_below q spells below) is.means) refl;
}

pub pss_reading : IsReading PssParts pss_parts_at
pss_reading = record { found = pss_found; only = pss_only }

pub oaep_reading : IsReading OaepParts oaep_parts_at
oaep_reading = record { found = oaep_found; only = oaep_only }

pub pss_meaning : IsMeaning (IsParameters PssParts) pss_in
pss_meaning = parameters_meaning PssParts pss_parts_at pss_reading

pub oaep_meaning : IsMeaning (IsParameters OaepParts) oaep_in
oaep_meaning = parameters_meaning OaepParts oaep_parts_at oaep_reading
