-- The readers of timestamps take what the relations say, and no more.
use Rattle.std.proofs.Common.{◌≡◌, ◌≢◌, ◌∙◌, refl, sym, ap, subst, ℕ, ◌+◌, ◌*◌, ◌^◌, ◌<◌, nat_lt, Bool, true, false, List, [], ◌∷◌, ◌++◌, length, take, drop, arith, length-append, Ok, Err, inl, inr, if◌then◌else◌}
use Rattle.std.specs.Int.Digits.{AllBelowBase, number_from_digits}
use Rattle.std.proofs.lemmas.Int.Digits.{number_lt}
use Rattle.std.proofs.lemmas.Bool.{lt-ltb, le-ltb, ltb-false}
use Rattle.std.proofs.lemmas.List.{take-append-drop, length-take-le}
use Rattle.std.proofs.Math.Seq.{take-append_seam, drop-append_seam}
use Rattle.asn1_core.proofs.Cases.{chosen}
use Rattle.asn1_core.proofs.Numbers.{append_below}
use Rattle.x509_core.specs.Answers.{Answer, unnamed}
use Rattle.x509_core.specs.Grammar.{AsMany}
use Rattle.x509_core.specs.Leaves.{Leaf}
use Rattle.x509_core.specs.Reading.{many_of, leaf_in}
use Rattle.x509_core.proofs.Grammars.{IsMeaning, IsReading, next_reading, two, below_front, content_below}
use Rattle.asn1_core.specs.Elements.{Element}
use Rattle.asn1_traits.specs.Leaves.{IsLeaf}
use Rattle.std.proofs.Common.{◌==◌, ◌||◌, not}
use Rattle.x509_core.proofs.LeafLaws.{equal_tags, tags_equal}
use Rattle.x509_items.specs.Grammar.{OneOrMore}
use Rattle.x509_items.proofs.ManyLaws.{Shortens, as_many_reading}
use Rattle.x509_ext_sct.specs.Reading.{fixed_at, opaque_at, octet_at, fitting, time_at, signed_at, parts_at, timestamp_at, none_refused, some_timestamps_in, timestamps_in, element_timestamps, list_at}
use Rattle.x509_ext_sct.specs.Timestamps.{Fixed, Number, Opaque, DigitallySigned, TimestampParts, Timestamp, AreTimestamps, TimestampList}
use Rattle.x509_ext_sct.specs.Values as values

-- ---- octets

fixed_found : (n : ℕ) (i v r : List ℕ) → AllBelowBase 256 i → fixed_at n i ≡ Ok (v, r) → Fixed n i v r × AllBelowBase 256 r
unfolding fixed_at
fixed_found n i v r below given =
    elim (chosen (nat_lt (length i) n) _ _ _ given) [
      | inl few ↦ let impossible = few.1 in cc
      | inr enough ↦
          let both : ◌≡◌ {A = List ℕ × List ℕ} (take n i, drop n i) (v, r) = cc in
          let whole = sym (take-append-drop n i) in
          let size : length (take n i) ≡ n = length-take-le n i (ltb-false (length i) n enough.0) in
          let is : Fixed n i (take n i) (drop n i) = record { size = size; whole = whole } in
          subst (λ (z : List ℕ × List ℕ). Fixed n i z.0 z.1 × AllBelowBase 256 z.1) both (is, append_below 256 (take n i) (drop n i) (subst (AllBelowBase 256) whole below))
    ]

enough_octets : (n : ℕ) (v r : List ℕ) → length v ≡ n → nat_lt (length (v ++ r)) n ≡ false
enough_octets n v r size = le-ltb (length (v ++ r)) n (omega (arith, length-append v r, size))

fixed_only : (n : ℕ) (i v r : List ℕ) → Fixed n i v r → fixed_at n i ≡ Ok (v, r)
unfolding fixed_at
fixed_only n i v r is =
    let front : take n (v ++ r) ≡ v = ap (λ m. take m (v ++ r)) (sym is.size) ∙ take-append_seam v r in
    let back : drop n (v ++ r) ≡ r = ap (λ m. drop m (v ++ r)) (sym is.size) ∙ drop-append_seam v r in
    rw (is.whole, enough_octets n v r is.size, front, back) refl

pub fixed_reading : (n : ℕ) → IsReading (Fixed n) (fixed_at n)
fixed_reading n = record { found = fixed_found n; only = λ i v r below is. fixed_only n i v r is }

opaque_found : (i v r : List ℕ) → AllBelowBase 256 i → opaque_at i ≡ Ok (v, r) → Opaque i v r × AllBelowBase 256 r
unfolding opaque_at
opaque_found [] v r below given = cc
opaque_found (high ∷ []) v r below given = cc
opaque_found (high ∷ low ∷ s) v r below given =
    let is = fixed_found (high * 256 + low) s v r below.1.1 given in
    let value : high * 256 + low ≡ number_from_digits 256 (high ∷ low ∷ []) = omega arith in
    (record { size = high * 256 + low; after = s; told = record { digits = high ∷ low ∷ []; there = record { size = refl; whole = refl }; value = value }; there = is.0 }, is.1)

opaque_two : (digits s v r : List ℕ) (size : ℕ) → length digits ≡ 2 → size ≡ number_from_digits 256 digits → Fixed size s v r → opaque_at (digits ++ s) ≡ Ok (v, r)
unfolding opaque_at
opaque_two [] s v r size pair value is = absurd (omega (arith, pair))
opaque_two (a ∷ []) s v r size pair value is = absurd (omega (arith, pair))
opaque_two (a ∷ b ∷ []) s v r size pair value is =
    let sum : number_from_digits 256 (a ∷ b ∷ []) ≡ a * 256 + b = omega arith in
    subst (λ n. fixed_at n s ≡ Ok (v, r)) (value ∙ sum) (fixed_only size s v r is)
opaque_two (a ∷ b ∷ c ∷ ds) s v r size pair value is = absurd (omega (arith, pair))

pub opaque_reading : IsReading Opaque opaque_at
opaque_reading = record {
  found = opaque_found;
  only = λ i v r below is. rw (is.told.there.whole) (opaque_two is.told.digits is.after v r is.size is.told.there.size is.told.value is.there);
}

octet_found : (i : List ℕ) (x : ℕ) (r : List ℕ) → AllBelowBase 256 i → octet_at i ≡ Ok (x, r) → (i ≡ x ∷ r) × AllBelowBase 256 r
unfolding octet_at
octet_found [] x r below given = cc
octet_found (y ∷ s) x r below given =
    let both : ◌≡◌ {A = ℕ × List ℕ} (y, s) (x, r) = cc in
    (ap (λ (z : ℕ × List ℕ). z.0 ∷ z.1) both, subst (AllBelowBase 256) (ap (λ (z : ℕ × List ℕ). z.1) both) below.1)

octet_only : (i : List ℕ) (x : ℕ) (r : List ℕ) → i ≡ x ∷ r → octet_at i ≡ Ok (x, r)
unfolding octet_at
octet_only i x r is = rw is refl

time_found : (i : List ℕ) (v : ℕ) (r : List ℕ) → AllBelowBase 256 i → time_at i ≡ Ok (v, r) → Number 8 i v r × AllBelowBase 256 r
unfolding time_at
time_found i v r below given =
    let read = two (fixed_at 8 i) fitting (v, r) given in
    let is = fixed_found 8 i read.0.0 read.0.1 below read.1 in
    elim (chosen (nat_lt (number_from_digits 256 read.0.0) (2 ^ 64)) _ _ _ read.2) [
      | inl fits ↦
          let both : ◌≡◌ {A = ℕ × List ℕ} (number_from_digits 256 read.0.0, read.0.1) (v, r) = cc in
          let number : Number 8 i (number_from_digits 256 read.0.0) read.0.1 = record { digits = read.0.0; there = is.0; value = refl } in
          subst (λ (z : ℕ × List ℕ). Number 8 i z.0 z.1 × AllBelowBase 256 z.1) both (number, is.1)
      | inr other ↦ let impossible = other.1 in cc
    ]

time_only : (i : List ℕ) (v : ℕ) (r : List ℕ) → AllBelowBase 256 i → Number 8 i v r → time_at i ≡ Ok (v, r)
unfolding time_at
time_only i v r below is =
    let digits = below_front is.digits r (subst (AllBelowBase 256) is.there.whole below) in
    let small : number_from_digits 256 is.digits < 2 ^ 64 = subst (λ n. number_from_digits 256 is.digits < 256 ^ n) is.there.size (number_lt 256 is.digits digits) in
    rw (fixed_only 8 i is.digits r is.there, lt-ltb (number_from_digits 256 is.digits) (2 ^ 64) small, is.value) refl

-- ---- timestamps

signed_found : (i : List ℕ) (v : values.DigitallySigned) (r : List ℕ) → AllBelowBase 256 i → signed_at i ≡ Ok (v, r) → DigitallySigned i v r × AllBelowBase 256 r
unfolding signed_at
signed_found i v r below given =
    let hash = two (octet_at i) _ (v, r) given in
    let first = octet_found i hash.0.0 hash.0.1 below hash.1 in
    let sign = two (octet_at hash.0.1) _ (v, r) hash.2 in
    let second = octet_found hash.0.1 sign.0.0 sign.0.1 first.1 sign.1 in
    let content = two (opaque_at sign.0.1) _ (v, r) sign.2 in
    let third = opaque_found sign.0.1 content.0.0 content.0.1 second.1 content.1 in
    let here : values.DigitallySigned = record { hash_alg_id = hash.0.0; sign_alg_id = sign.0.0; content = content.0.0 } in
    let both : ◌≡◌ {A = values.DigitallySigned × List ℕ} (here, content.0.1) (v, r) = cc in
    let is : DigitallySigned i here content.0.1 = record { after = sign.0.1; algorithm = first.0 ∙ ap (λ z. hash.0.0 ∷ z) second.0; content = third.0 } in
    subst (λ (z : values.DigitallySigned × List ℕ). DigitallySigned i z.0 z.1 × AllBelowBase 256 z.1) both (is, third.1)

signed_only : (i : List ℕ) (v : values.DigitallySigned) (r : List ℕ) → AllBelowBase 256 i → DigitallySigned i v r → signed_at i ≡ Ok (v, r)
unfolding signed_at
signed_only i v r below is =
    let inner : AllBelowBase 256 (v.hash_alg_id ∷ v.sign_alg_id ∷ is.after) = subst (AllBelowBase 256) is.algorithm below in
    rw (octet_only i v.hash_alg_id (v.sign_alg_id ∷ is.after) is.algorithm, octet_only (v.sign_alg_id ∷ is.after) v.sign_alg_id is.after refl, opaque_reading.only is.after v.content r inner.1.1 is.content) refl

same_ok : {A : Type 0} (a b : A) → (let x : Answer A = Ok a in x ≡ Ok b) → a ≡ b
same_ok a b given = cc

parts_found : (i : List ℕ) (v : values.SignedCertificateTimestamp) (r : List ℕ) → AllBelowBase 256 i → parts_at i ≡ Ok (v, r) → TimestampParts i v r × AllBelowBase 256 r
unfolding parts_at
parts_found i v r below given =
    let version = two (octet_at i) _ (v, r) given in
    let first = octet_found i version.0.0 version.0.1 below version.1 in
    let id = two (fixed_at 32 version.0.1) _ (v, r) version.2 in
    let second = fixed_found 32 version.0.1 id.0.0 id.0.1 first.1 id.1 in
    let time = two (time_at id.0.1) _ (v, r) id.2 in
    let third = time_found id.0.1 time.0.0 time.0.1 second.1 time.1 in
    let extensions = two (opaque_at time.0.1) _ (v, r) time.2 in
    let fourth = opaque_found time.0.1 extensions.0.0 extensions.0.1 third.1 extensions.1 in
    let signature = two (signed_at extensions.0.1) _ (v, r) extensions.2 in
    let fifth = signed_found extensions.0.1 signature.0.0 signature.0.1 fourth.1 signature.1 in
    let here : values.SignedCertificateTimestamp = record { version = version.0.0; id = id.0.0; timestamp = time.0.0; extensions = extensions.0.0; signature = signature.0.0 } in
    let both : ◌≡◌ {A = values.SignedCertificateTimestamp × List ℕ} (here, signature.0.1) (v, r) = same_ok (here, signature.0.1) (v, r) signature.2 in
    let is : TimestampParts i here signature.0.1 = record {
      after_version = version.0.1;
      version = first.0;
      after_id = id.0.1;
      id = second.0;
      after_time = time.0.1;
      timestamp = third.0;
      after_extensions = extensions.0.1;
      extensions = fourth.0;
      signature = fifth.0;
    } in
    subst (λ (z : values.SignedCertificateTimestamp × List ℕ). TimestampParts i z.0 z.1 × AllBelowBase 256 z.1) both (is, fifth.1)

parts_only : (i : List ℕ) (v : values.SignedCertificateTimestamp) (r : List ℕ) → AllBelowBase 256 i → TimestampParts i v r → parts_at i ≡ Ok (v, r)
unfolding parts_at
parts_only i v r below is =
    let version = octet_only i v.version is.after_version is.version in
    let after_version = (octet_found i v.version is.after_version below version).1 in
    let id = fixed_only 32 is.after_version v.id is.after_id is.id in
    let after_id = (fixed_found 32 is.after_version v.id is.after_id after_version id).1 in
    let time = time_only is.after_id v.timestamp is.after_time after_id is.timestamp in
    let after_time = (time_found is.after_id v.timestamp is.after_time after_id time).1 in
    let extensions = opaque_reading.only is.after_time v.extensions is.after_extensions after_time is.extensions in
    let after_extensions = (opaque_found is.after_time v.extensions is.after_extensions after_time extensions).1 in
    let signature = signed_only is.after_extensions v.signature r after_extensions is.signature in
    rw (version, id, time, extensions, signature) refl

-- the octets of a counted part are octets
opaque_inner : (i v r : List ℕ) → AllBelowBase 256 i → Opaque i v r → AllBelowBase 256 v
opaque_inner i v r below is =
    below_front v r (subst (AllBelowBase 256) is.there.whole (append_below 256 is.told.digits is.after (subst (AllBelowBase 256) is.told.there.whole below)))

pub timestamp_reading : IsReading Timestamp timestamp_at
timestamp_reading = record {
  found = λ i v r below given.
      let inner = two (opaque_at i) _ (v, r) given in
      let counted = opaque_found i inner.0.0 inner.0.1 below inner.1 in
      let parts = two (parts_at inner.0.0) _ (v, r) inner.2 in
      let is = parts_found inner.0.0 parts.0.0 parts.0.1 (opaque_inner i inner.0.0 inner.0.1 below counted.0) parts.1 in
      let both : ◌≡◌ {A = values.SignedCertificateTimestamp × List ℕ} (parts.0.0, inner.0.1) (v, r) = cc in
      let here : Timestamp i parts.0.0 inner.0.1 = record { inner = inner.0.0; counted = counted.0; left = parts.0.1; parts = is.0 } in
      subst (λ (z : values.SignedCertificateTimestamp × List ℕ). Timestamp i z.0 z.1 × AllBelowBase 256 z.1) both (here, counted.1);
  only = λ i v r below is.
      let inner = opaque_reading.only i is.inner r below is.counted in
      let parts = parts_only is.inner v is.left (opaque_inner i is.inner r below is.counted) is.parts in
      rw (inner, parts) refl;
}

shorter : Shortens Timestamp
shorter i v r is =
    let told = ap length is.counted.told.there.whole in
    let there = ap length is.counted.there.whole in
    omega (arith, told, there, is.counted.told.there.size, length-append is.counted.told.digits is.counted.after, length-append is.inner r)

many : IsReading (AsMany Timestamp) (λ i. Ok (many_of timestamp_at i))
many = as_many_reading Timestamp timestamp_at timestamp_reading shorter

some_found : (xs ts : List values.SignedCertificateTimestamp) → none_refused xs ≡ Ok ts → (xs ≡ ts) × (ts ≢ [])
some_found [] ts given = cc
some_found (x ∷ xs) ts given = let same : x ∷ xs ≡ ts = cc in (same, λ none. let wrong = same ∙ none in cc)

some_only : (ts : List values.SignedCertificateTimestamp) → ts ≢ [] → none_refused ts ≡ Ok ts
some_only [] some = absurd (some refl)
some_only (t ∷ ts) some = refl

leaf_case : (t c : Bool) (content v : List ℕ) → (let x : Answer (List ℕ) = if not t || c then Err unnamed else Ok content in x ≡ Ok v) → (t ≡ true) × (c ≡ false) × (v ≡ content)
leaf_case true true content v given = cc
leaf_case true false content v given = (refl, refl, cc)
leaf_case false c content v given = cc

leaf_found : (n : ℕ) (e : Element) (c : List ℕ) → leaf_in n e ≡ Ok c → IsLeaf n e × (c ≡ e.content)
leaf_found n e c given =
    let case = leaf_case (e.tag == n) e.constructed e.content c given in
    (record { tag_is = equal_tags e.tag n case.0; primitive = case.1 }, case.2)

leaf_only : (n : ℕ) (e : Element) → IsLeaf n e → leaf_in n e ≡ Ok e.content
leaf_only n e is = rw (tags_equal e.tag n is.tag_is, is.primitive) refl

some_timestamps_found : (i : List ℕ) (ts : List values.SignedCertificateTimestamp) → AllBelowBase 256 i → some_timestamps_in i ≡ Ok ts → (left : List ℕ) × OneOrMore Timestamp i ts left
some_timestamps_found i ts below given =
    let case = some_found (many_of timestamp_at i).0 ts given in
    let read = many.found i (many_of timestamp_at i).0 (many_of timestamp_at i).1 below refl in
    ((many_of timestamp_at i).1, record { some = case.1; each = subst (λ z. AsMany Timestamp i z (many_of timestamp_at i).1) case.0 read.0 })

timestamps_meaning : IsMeaning (Leaf 4 AreTimestamps) (λ p. element_timestamps p.element)
timestamps_meaning = record {
  found = λ q v spells below given.
      let content = two (leaf_in 4 q.element) timestamps_in v given in
      let leaf = leaf_found 4 q.element content.0 content.1 in
      let inside = subst (AllBelowBase 256) (sym leaf.1) (content_below q spells below) in
      let inner = two (opaque_at content.0) _ v content.2 in
      let counted = opaque_found content.0 inner.0.0 inner.0.1 inside inner.1 in
      let each = some_timestamps_found inner.0.0 v (opaque_inner content.0 inner.0.0 inner.0.1 inside counted.0) inner.2 in
      let are : AreTimestamps content.0 v = record { inner = inner.0.0; behind = inner.0.1; counted = counted.0; left = each.0; each = each.1 } in
      record { leaf = leaf.0; meant = subst (λ z. AreTimestamps z v) leaf.1 are };
  only = λ q v spells below is.
      let inside = content_below q spells below in
      let inner = opaque_reading.only q.element.content is.meant.inner is.meant.behind inside is.meant.counted in
      let octets = opaque_inner q.element.content is.meant.inner is.meant.behind inside is.meant.counted in
      let each = many.only is.meant.inner v is.meant.left octets is.meant.each.each in
      let read : many_of timestamp_at is.meant.inner ≡ (v, is.meant.left) = cc in
      rw (leaf_only 4 q.element is.leaf, inner, read) (some_only v is.meant.each.some);
}

pub list_reading : IsReading TimestampList list_at
list_reading = next_reading (Leaf 4 AreTimestamps) (λ p. element_timestamps p.element) timestamps_meaning
