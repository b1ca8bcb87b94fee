-- Readers of keys take what the relations say, and no more.
use Rattle.std.proofs.Common.{◌≡◌, ◌≢◌, ◌∙◌, refl, sym, ap, subst, arith, lit<, ℕ, pos, ◌<◌, ◌≤◌, ◌^◌, nat_lt, Bool, true, false, ◌||◌, if◌then◌else◌, List, [], ◌∷◌, ◌++◌, length, Option, Some, None, IfSome, IsSomeAnd, option_map, Ok, Err, append_assoc, ◌⊎◌, inl, inr}
use Rattle.std.specs.Prelude.{bytes_eq}
use Rattle.std.specs.Int.Digits.{number_from_digits}
use Rattle.std.proofs.lemmas.Int.Digits.{number_lt}
use Rattle.std.proofs.Math.Nat.{pow-le-pow_right}
use Rattle.std.proofs.lemmas.Slice.Eq.{bytes_eq-Decides}
use Rattle.asn1_core.proofs.Cases.{chosen}
use Rattle.x509_core.specs.asn1_traits.specs.Integers.{twos_complement}
use Rattle.asn1_values.specs.ReaderLaws.{unsigned_only}
use Rattle.asn1_values.specs.Readers.{unsigned_at}
use Rattle.std.specs.Int.Digits.{AllBelowBase}
use Rattle.asn1_any.proofs.Cuts.{front_is}
use Rattle.x509_core.specs.Answers.{Answer, naming}
use Rattle.x509_core.specs.Reading.{Reader, next, content_in}
use Rattle.x509_core.specs.Grammar.{Grammar, One, Holds, HoldsWindow}
use Rattle.x509_core.proofs.Grammars.{IsMeaning, IsReading, next_reading, two, was_named, content_below}
use Rattle.x509_core.specs.declared.error.X509Error.TheVariants as errors
use Rattle.x509_names.specs.Fields.{Key, RsaKey, KeyValue, rsa, dsa, gost, gost_2012, unknown}
use Rattle.x509_objects.specs.Identifiers.{rsa_id, ec_id, dsa_id, gost_id, gost_2012_256_id, gost_2012_512_id}
use Rattle.x509_names.specs.Reading.{algorithm_in, algorithm_at, bits_in, bits_at, integer_in, integer_at, octets_in, octets_at, key_in, rsa_key_in, rsa_key_at, value_of, key_value_of, window_to}
use Rattle.x509_names.specs.Leaves.{IsBits, IsInteger, IsOctets}
use Rattle.x509_names.specs.Names.{AlgorithmParts, KeyParts}
use Rattle.x509_names.specs.PublicKeys.{RsaParts, RSAPublicKey, IsKeyValue, is_rsa, is_ec, is_dsa, is_gost, is_gost_256, is_gost_512, is_unknown, IsExponent}
use Rattle.x509_names.proofs.LeafLaws.{content_found, content_only, bits_meaning, integer_meaning, octets_meaning}
use Rattle.x509_core.proofs.FrontLaws.{named_reading}
use Rattle.x509_names.proofs.NameLaws.{algorithm_meaning, window_is}

pub key_meaning : IsMeaning (HoldsWindow 16 KeyParts (λ k. k.raw)) key_in
unfolding key_in
key_meaning = record {
  found = λ q v spells below given.
      let content = two (content_in 16 q.element) _ v given in
      let tag = content_found 16 q.element content.0 content.1 in
      let inner : AllBelowBase 256 content.0 = subst (AllBelowBase 256) tag.1 (content_below q spells below) in
      let first = two (algorithm_at content.0) _ v content.2 in
      let algorithm = (next_reading (Holds 16 AlgorithmParts) (λ p. algorithm_in p.element) algorithm_meaning).found content.0 first.0.0 first.0.1 inner first.1 in
      let last = two (naming errors.InvalidSPKI (bits_at first.0.1)) _ v first.2 in
      let bits = (next_reading IsBits (λ p. bits_in p.element) bits_meaning).found first.0.1 last.0.0 last.0.1 algorithm.1 (was_named _ _ _ last.1) in
      let front = algorithm.0.piece.octets ++ bits.0.piece.octets in
      let whole : q.element.content ≡ front ++ last.0.1 = tag.1 ∙ algorithm.0.whole ∙ ap (λ z. algorithm.0.piece.octets ++ z) bits.0.whole ∙ sym (append_assoc algorithm.0.piece.octets bits.0.piece.octets last.0.1) in
      let here : Key = record { algorithm = first.0.0; key = last.0.0; raw = window_to q.octets last.0.1 } in
      let same : ◌≡◌ {A = Key} here v = cc in
      let parts : KeyParts content.0 here last.0.1 = record { after_algorithm = first.0.1; algorithm = algorithm.0; subject_public_key = bits.0 } in
      subst (HoldsWindow 16 KeyParts (λ k. k.raw) q) same (record {
        left = last.0.1;
        inside = record { tag = tag.0; inner = subst (λ z. KeyParts z here last.0.1) (sym tag.1) parts };
        window = window_is q spells front last.0.1 whole;
      });
  only = λ q v spells below is.
      let parts = is.inside.inner in
      let algorithm = next_reading (Holds 16 AlgorithmParts) (λ p. algorithm_in p.element) algorithm_meaning in
      let first : algorithm_at q.element.content ≡ Ok (v.algorithm, parts.after_algorithm) = algorithm.only q.element.content v.algorithm parts.after_algorithm (content_below q spells below) parts.algorithm in
      let below_rest = (algorithm.found q.element.content v.algorithm parts.after_algorithm (content_below q spells below) first).1 in
      let last : bits_at parts.after_algorithm ≡ Ok (v.key, is.left) = (next_reading IsBits (λ p. bits_in p.element) bits_meaning).only parts.after_algorithm v.key is.left below_rest parts.subject_public_key in
      rw (content_only 16 q.element is.inside.tag, first, last, front_is q.octets v.raw is.left is.window) refl;
}

pub rsa_meaning : IsMeaning (Holds 16 RsaParts) (λ q. rsa_key_in q.element)
unfolding rsa_key_in
rsa_meaning = record {
  found = λ q v spells below given.
      let content = two (content_in 16 q.element) _ v given in
      let tag = content_found 16 q.element content.0 content.1 in
      let inner : AllBelowBase 256 content.0 = subst (AllBelowBase 256) tag.1 (content_below q spells below) in
      let reading = next_reading IsInteger (λ p. integer_in p.element) integer_meaning in
      let first = two (integer_at content.0) _ v content.2 in
      let modulus = reading.found content.0 first.0.0 first.0.1 inner first.1 in
      let last = two (integer_at first.0.1) _ v first.2 in
      let exponent = reading.found first.0.1 last.0.0 last.0.1 modulus.1 last.1 in
      let here : RsaKey = record { modulus = first.0.0; exponent = last.0.0 } in
      let same : ◌≡◌ {A = RsaKey} here v = cc in
      let parts : RsaParts content.0 here last.0.1 = record { after_modulus = first.0.1; modulus = modulus.0; exponent = exponent.0 } in
      (last.0.1, record { tag = tag.0; inner = subst (λ z. RsaParts z v last.0.1) (sym tag.1) (subst (λ z. RsaParts content.0 z last.0.1) same parts) });
  only = λ q v spells below is.
      let parts = is.1.inner in
      let inner = content_below q spells below in
      let reading = next_reading IsInteger (λ p. integer_in p.element) integer_meaning in
      let first : integer_at q.element.content ≡ Ok (v.modulus, parts.after_modulus) = reading.only q.element.content v.modulus parts.after_modulus inner parts.modulus in
      let rest = (reading.found q.element.content v.modulus parts.after_modulus inner first).1 in
      let last : integer_at parts.after_modulus ≡ Ok (v.exponent, is.0) = reading.only parts.after_modulus v.exponent is.0 rest parts.exponent in
      rw (content_only 16 q.element is.1.tag, first, last) refl;
}

pub rsa_reading : IsReading RSAPublicKey rsa_key_at
rsa_reading = named_reading RSAPublicKey (next (λ q. rsa_key_in q.element)) errors.InvalidSPKI (next_reading (Holds 16 RsaParts) (λ q. rsa_key_in q.element) rsa_meaning)

-- ---- what a key's octets are

-- the value that is read at the front, if one is
value_by : {A : Type 0} (P : Grammar A) (i : List ℕ) (v : A) (r : Answer (A × List ℕ)) → ((x : A × List ℕ) → r ≡ Ok x → P i x.0 x.1) → value_of r ≡ Some v → (rest : List ℕ) × P i v rest
value_by P i v (Ok x) found told = let same : x.0 ≡ v = cc in (x.1, subst (λ z. P i z x.1) same (found x refl))
value_by P i v (Err e) found told = cc

value_found : {A : Type 0} (P : Grammar A) (p : Reader A) → IsReading P p → (i : List ℕ) (v : A) → AllBelowBase 256 i → value_of (p i) ≡ Some v → (rest : List ℕ) × P i v rest
value_found P p reading i v below given = value_by P i v (p i) (λ x read. (reading.found i x.0 x.1 below read).0) given

value_only : {A : Type 0} (P : Grammar A) (p : Reader A) → IsReading P p → (i : List ℕ) (v : A) (rest : List ℕ) → AllBelowBase 256 i → P i v rest → value_of (p i) ≡ Some v
value_only P p reading i v rest below is = ap value_of (reading.only i v rest below is)

-- a value of a kind
kind_found : {A : Type 0} (kind : A → KeyValue) (o : Option A) (v : KeyValue) → option_map kind o ≡ Some v → (x : A) × (o ≡ Some x) × (v ≡ kind x)
kind_found kind (Some x) v given = (x, refl, cc)
kind_found kind None v given = cc

octets_are : (a b : List ℕ) → bytes_eq a b ≡ true → a ≡ b
octets_are a b given = (bytes_eq-Decides a b).0 given

octets_differ : (a b : List ℕ) → bytes_eq a b ≡ false → a ≢ b
octets_differ a b given same = let is = (bytes_eq-Decides a b).1 same in cc

octets_test_false : (a b : List ℕ) → a ≢ b → bytes_eq a b ≡ false
octets_test_false a b differ = by (bytes_eq a b) refl
  where
    by : (t : Bool) → bytes_eq a b ≡ t → bytes_eq a b ≡ false
    by true is = absurd (differ (octets_are a b is))
    by false is = is

either : (a b : Bool) → (a || b) ≡ true → (a ≡ true) ⊎ (b ≡ true)
either true b given = inl refl
either false b given = inr given

neither : (a b : Bool) → (a || b) ≡ false → (a ≡ false) × (b ≡ false)
neither true b given = cc
neither false b given = (refl, given)

integer_reading : IsReading (One IsInteger) integer_at
integer_reading = next_reading IsInteger (λ p. integer_in p.element) integer_meaning

octets_reading : IsReading (One IsOctets) octets_at
octets_reading = next_reading IsOctets (λ p. octets_in p.element) octets_meaning

-- after the first four kinds
gost_found : (identifier octets : List ℕ) (v : KeyValue) → AllBelowBase 256 octets → bytes_eq identifier rsa_id ≡ false → bytes_eq identifier ec_id ≡ false → bytes_eq identifier dsa_id ≡ false → bytes_eq identifier gost_id ≡ false
    → (if bytes_eq identifier gost_2012_256_id || bytes_eq identifier gost_2012_512_id then option_map gost_2012 (value_of (octets_at octets)) else Some (unknown octets)) ≡ Some v → IsKeyValue identifier octets v
gost_found identifier octets v below no_rsa no_ec no_dsa no_gost given =
    elim (chosen (bytes_eq identifier gost_2012_256_id || bytes_eq identifier gost_2012_512_id) _ _ _ given) [
      | inl here ↦
          let kind = kind_found gost_2012 (value_of (octets_at octets)) v here.1 in
          let read = value_found (One IsOctets) octets_at octets_reading octets kind.0 below kind.1 in
          elim (either (bytes_eq identifier gost_2012_256_id) (bytes_eq identifier gost_2012_512_id) here.0) [
            | inl first ↦ is_gost_256 kind.0 read.0 (octets_are identifier gost_2012_256_id first) read.1 kind.2
            | inr second ↦ is_gost_512 kind.0 read.0 (octets_are identifier gost_2012_512_id second) read.1 kind.2
          ]
      | inr other ↦
          let no = neither (bytes_eq identifier gost_2012_256_id) (bytes_eq identifier gost_2012_512_id) other.0 in
          is_unknown (record {
            no_rsa = octets_differ identifier rsa_id no_rsa;
            no_ec = octets_differ identifier ec_id no_ec;
            no_dsa = octets_differ identifier dsa_id no_dsa;
            no_gost = octets_differ identifier gost_id no_gost;
            no_gost_256 = octets_differ identifier gost_2012_256_id no.0;
            no_gost_512 = octets_differ identifier gost_2012_512_id no.1;
          }) (let same = other.1 in cc)
    ]

pub key_found : (identifier octets : List ℕ) (v : KeyValue) → AllBelowBase 256 octets → key_value_of identifier octets ≡ Some v → IsKeyValue identifier octets v
unfolding key_value_of
key_found identifier octets v below given =
    elim (chosen (bytes_eq identifier rsa_id) _ _ _ given) [
      | inl here ↦
          let kind = kind_found rsa (value_of (rsa_key_at octets)) v here.1 in
          let read = value_found RSAPublicKey rsa_key_at rsa_reading octets kind.0 below kind.1 in
          is_rsa kind.0 read.0 (octets_are identifier rsa_id here.0) read.1 kind.2
      | inr no_rsa ↦ elim (chosen (bytes_eq identifier ec_id) _ _ _ no_rsa.1) [
        | inl here ↦ is_ec (octets_are identifier ec_id here.0) (let same = here.1 in cc)
        | inr no_ec ↦ elim (chosen (bytes_eq identifier dsa_id) _ _ _ no_ec.1) [
          | inl here ↦
              let kind = kind_found dsa (value_of (integer_at octets)) v here.1 in
              let read = value_found (One IsInteger) integer_at integer_reading octets kind.0 below kind.1 in
              is_dsa kind.0 read.0 (octets_are identifier dsa_id here.0) read.1 kind.2
          | inr no_dsa ↦ elim (chosen (bytes_eq identifier gost_id) _ _ _ no_dsa.1) [
            | inl here ↦
                let kind = kind_found gost (value_of (octets_at octets)) v here.1 in
                let read = value_found (One IsOctets) octets_at octets_reading octets kind.0 below kind.1 in
                is_gost kind.0 read.0 (octets_are identifier gost_id here.0) read.1 kind.2
            | inr no_gost ↦ gost_found identifier octets v below no_rsa.0 no_ec.0 no_dsa.0 no_gost.0 no_gost.1
          ]
        ]
      ]
    ]

pub key_only : (identifier octets : List ℕ) (v : KeyValue) → AllBelowBase 256 octets → IsKeyValue identifier octets v → key_value_of identifier octets ≡ Some v
unfolding key_value_of
key_only identifier octets v below (is_rsa k rest same read kind) = rw (same, kind) (ap (option_map rsa) (value_only RSAPublicKey rsa_key_at rsa_reading octets k rest below read))
key_only identifier octets v below (is_ec same kind) = rw (same, kind) refl
key_only identifier octets v below (is_dsa y rest same read kind) = rw (same, kind) (ap (option_map dsa) (value_only (One IsInteger) integer_at integer_reading octets y rest below read))
key_only identifier octets v below (is_gost y rest same read kind) = rw (same, kind) (ap (option_map gost) (value_only (One IsOctets) octets_at octets_reading octets y rest below read))
key_only identifier octets v below (is_gost_256 y rest same read kind) = rw (same, kind) (ap (option_map gost_2012) (value_only (One IsOctets) octets_at octets_reading octets y rest below read))
key_only identifier octets v below (is_gost_512 y rest same read kind) = rw (same, kind) (ap (option_map gost_2012) (value_only (One IsOctets) octets_at octets_reading octets y rest below read))
key_only identifier octets v below (is_unknown other kind) =
    rw (
      octets_test_false identifier rsa_id other.no_rsa,
      octets_test_false identifier ec_id other.no_ec,
      octets_test_false identifier dsa_id other.no_dsa,
      octets_test_false identifier gost_id other.no_gost,
      octets_test_false identifier gost_2012_256_id other.no_gost_256,
      octets_test_false identifier gost_2012_512_id other.no_gost_512,
      kind,
    ) refl

-- ---- exponents

number_of_octets : (content : List ℕ) (n : ℕ) → AllBelowBase 256 content → twos_complement content ≡ pos n → n < 256 ^ length content
unfolding twos_complement
number_of_octets [] n below value = let none : 0 ≡ n = cc in omega (arith, none)
number_of_octets (octet ∷ octets) n below value =
    elim (chosen (nat_lt octet 128) _ _ _ value) [
      | inl here ↦
          let same : number_from_digits 256 (octet ∷ octets) ≡ n = let whole = here.1 in cc in
          subst (λ z. z < 256 ^ length (octet ∷ octets)) same (number_lt 256 (octet ∷ octets) below)
      | inr other ↦ let wrong = other.1 in cc
    ]

pub exponent_small : (content : List ℕ) (n : ℕ) → AllBelowBase 256 content → IsExponent content n → n < 2 ^ 64
exponent_small content n below is =
    let less = number_of_octets content n below is.spells.value in
    let most : 256 ^ length content ≤ 256 ^ 8 = pow-le-pow_right (lit< tt) is.short in
    omega (arith, less, most)

pub exponent_read : (content : List ℕ) (n : ℕ) → AllBelowBase 256 content → IsExponent content n → unsigned_at 64 content ≡ Ok n
exponent_read content n below is = unsigned_only 64 content n is.spells (exponent_small content n below is)

pub key_given : {X : Type 0} (view : X → KeyValue) (identifier octets : List ℕ) (o : Option X) → AllBelowBase 256 octets → option_map view o ≡ key_value_of identifier octets → IfSome o (λ k. IsKeyValue identifier octets (view k))
key_given view identifier octets (Some k) below given = key_found identifier octets (view k) below (sym given)
key_given view identifier octets None below given = tt

told_kind : {X : Type 0} (view : X → KeyValue) (o : Option X) (v : KeyValue) → option_map view o ≡ Some v → IsSomeAnd o (λ k. view k ≡ v)
told_kind view (Some k) v given = cc
told_kind view None v given = cc

pub key_told : {X : Type 0} (view : X → KeyValue) (identifier octets : List ℕ) (o : Option X) (v : KeyValue) → AllBelowBase 256 octets → option_map view o ≡ key_value_of identifier octets → IsKeyValue identifier octets v → IsSomeAnd o (λ k. view k ≡ v)
key_told view identifier octets o v below given is = told_kind view o v (given ∙ key_only identifier octets v below is)
