-- Purposes are sorted as the relation says, and in no other way.
use Rattle.std.proofs.Common.{◌≡◌, ◌∙◌, refl, sym, ap, subst, ℕ, ◌||◌, Bool, true, false, List, [], ◌∷◌, ◌++◌, ◌⊎◌, inl, inr, Ok, if◌then◌else◌, append_assoc}
use Rattle.std.specs.Prelude.{bytes_eq}
use Rattle.std.proofs.lemmas.Slice.Eq.{bytes_eq-Decides}
use Rattle.std.specs.Int.Digits.{AllBelowBase}
use Rattle.std.proofs.lemmas.List.{append-nil}
use Rattle.x509_core.specs.Answers.{Answer, ◌>>=◌}
use Rattle.x509_core.specs.Grammar.{One, ToEnd}
use Rattle.x509_core.specs.Leaves.{IsOid}
use Rattle.x509_core.proofs.Grammars.{IsMeaning, IsReading, two}
use Rattle.x509_core.proofs.LeafLaws.{oid_meaning}
use Rattle.x509_items.specs.Grammar.{HoldsSequence}
use Rattle.x509_items.specs.Reading.{ended, all_of, oid_at}
use Rattle.x509_items.proofs.Readings.{sequence_meaning, all_reading}
use Rattle.x509_ext_policies.specs.Purposes.{any_extended_key_usage, id_kp, named_purposes, IsAmong, Tells, EachOnce, AreSorted, ExtendedKeyUsageParts}
use Rattle.x509_ext_policies.specs.Reading.{has, once_of, sorted, purposes_parts_at, purposes_in}
use Rattle.x509_ext_policies.specs.Values as values
use Rattle.std.proofs.Common.{Bor, Ordering, cond}
use Rattle.std.specs.Ordering.{on, nat_cmp, eq_by_cmp}
use Rattle.std.specs.Cmp.Lexicographic.{slice_cmp}
use Rattle.std.specs.BTreeSet as ordered
use Rattle.std.specs.BTreeSet.{BTreeSet}
use Rattle.std.proofs.lemmas.Map.Text.{is_eq-slice_cmp}

either : (a b : Bool) → (a || b) ≡ true → (a ≡ true) ⊎ (b ≡ true)
either true b e = inl refl
either false b e = inr e

left : (a b : Bool) → a ≡ true → (a || b) ≡ true
left true b e = refl
left false b e = cc

right : (a b : Bool) → b ≡ true → (a || b) ≡ true
right true b e = refl
right false b e = e

has_found : (id : List ℕ) (ids : List (List ℕ)) → has id ids ≡ true → IsAmong id ids
has_found id [] e = cc
has_found id (x ∷ xs) e = elim (either (bytes_eq x id) (has id xs) e) [
  | inl here ↦ inl ((bytes_eq-Decides x id).0 here)
  | inr there ↦ inr (has_found id xs there)
]

has_there : (id : List ℕ) (ids : List (List ℕ)) → IsAmong id ids → has id ids ≡ true
has_there id [] is = absurd is
has_there id (x ∷ xs) (inl same) = left (bytes_eq x id) (has id xs) ((bytes_eq-Decides x id).1 same)
has_there id (x ∷ xs) (inr more) = right (bytes_eq x id) (has id xs) (has_there id xs more)

tells_by : (id : List ℕ) (ids : List (List ℕ)) (b : Bool) → has id ids ≡ b → Tells id ids b
tells_by id ids true e = has_found id ids e
tells_by id ids false e = λ there. let is = has_there id ids there in cc

tells : (id : List ℕ) (ids : List (List ℕ)) → Tells id ids (has id ids)
tells id ids = tells_by id ids (has id ids) refl

tells_one : (purpose : List ℕ) (ids : List (List ℕ)) (a b : Bool) → Tells purpose ids a → Tells purpose ids b → a ≡ b
tells_one purpose ids true true p q = refl
tells_one purpose ids true false p q = absurd (q p)
tells_one purpose ids false true p q = absurd (p q)
tells_one purpose ids false false p q = refl

once_one : (before ids others more : List (List ℕ)) → EachOnce before ids others → EachOnce before ids more → others ≡ more
unfolding EachOnce
once_one before [] others more p q = p ∙ sym q
once_one before (id ∷ ids) others more (inl p) (inl q) = once_one before ids others more p.1 q.1
once_one before (id ∷ ids) others more (inl p) (inr q) = absurd (q.0 p.0)
once_one before (id ∷ ids) others more (inr p) (inl q) = absurd (p.0 q.0)
once_one before (id ∷ ids) others more (inr p) (inr q) = p.2 ∙ ap (λ z. id ∷ z) (once_one (id ∷ before) ids p.1 q.1 p.3 q.3) ∙ sym q.2

-- the same identifiers count as seen
abbrev IsSeen : List (List ℕ) → List (List ℕ) → Type 0
IsSeen before kept = (x : List ℕ) → (IsAmong x before → (has x named_purposes || has x kept) ≡ true) × ((has x named_purposes || has x kept) ≡ true → IsAmong x before)

has_last : (x id : List ℕ) (kept : List (List ℕ)) → has x (kept ++ id ∷ []) ≡ true → (has x kept ≡ true) ⊎ (id ≡ x)
has_last x id [] e = elim (either (bytes_eq id x) false e) [
  | inl here ↦ inr ((bytes_eq-Decides id x).0 here)
  | inr there ↦ cc
]
has_last x id (y ∷ kept) e = elim (either (bytes_eq y x) (has x (kept ++ id ∷ [])) e) [
  | inl here ↦ inl (left (bytes_eq y x) (has x kept) here)
  | inr there ↦ elim (has_last x id kept there) [
    | inl before ↦ inl (right (bytes_eq y x) (has x kept) before)
    | inr same ↦ inr same
  ]
]

has_before : (x id : List ℕ) (kept : List (List ℕ)) → has x kept ≡ true → has x (kept ++ id ∷ []) ≡ true
has_before x id [] e = cc
has_before x id (y ∷ kept) e = elim (either (bytes_eq y x) (has x kept) e) [
  | inl here ↦ left (bytes_eq y x) (has x (kept ++ id ∷ [])) here
  | inr there ↦ right (bytes_eq y x) (has x (kept ++ id ∷ [])) (has_before x id kept there)
]

has_itself : (x id : List ℕ) (kept : List (List ℕ)) → id ≡ x → has x (kept ++ id ∷ []) ≡ true
has_itself x id [] same = left (bytes_eq id x) false ((bytes_eq-Decides id x).1 same)
has_itself x id (y ∷ kept) same = right (bytes_eq y x) (has x (kept ++ id ∷ [])) (has_itself x id kept same)

seen_more : (before kept : List (List ℕ)) (id : List ℕ) → IsSeen before kept → IsSeen (id ∷ before) (kept ++ id ∷ [])
seen_more before kept id seen x = (
  λ is. elim is [
    | inl same ↦ right (has x named_purposes) (has x (kept ++ id ∷ [])) (has_itself x id kept same)
    | inr more ↦ elim (either (has x named_purposes) (has x kept) ((seen x).0 more)) [
      | inl flagged ↦ left (has x named_purposes) (has x (kept ++ id ∷ [])) flagged
      | inr there ↦ right (has x named_purposes) (has x (kept ++ id ∷ [])) (has_before x id kept there)
    ]
  ],
  λ told. elim (either (has x named_purposes) (has x (kept ++ id ∷ [])) told) [
    | inl flagged ↦ inr ((seen x).1 (left (has x named_purposes) (has x kept) flagged))
    | inr there ↦ elim (has_last x id kept there) [
      | inl earlier ↦ inr ((seen x).1 (right (has x named_purposes) (has x kept) earlier))
      | inr same ↦ inl same
    ]
  ],
)

abbrev Kept : List (List ℕ) → List (List ℕ) → List (List ℕ) → List (List ℕ) → Type 0
Kept before kept ids all = (more : List (List ℕ)) × (all ≡ kept ++ more) × EachOnce before ids more

kept_case : (before kept : List (List ℕ)) (id : List ℕ) (ids : List (List ℕ)) (b : Bool) → (has id named_purposes || has id kept) ≡ b → IsSeen before kept → Kept before kept ids (once_of kept ids)
    → Kept (id ∷ before) (kept ++ id ∷ []) ids (once_of (kept ++ id ∷ []) ids) → Kept before kept (id ∷ ids) (if b then once_of kept ids else once_of (kept ++ id ∷ []) ids)
unfolding EachOnce
kept_case before kept id ids true told seen same more = (same.0, same.1, inl ((seen id).1 told, same.2))
kept_case before kept id ids false told seen same more =
    (id ∷ more.0, more.1 ∙ append_assoc kept (id ∷ []) more.0, inr (λ is. let there = (seen id).0 is in cc, more.0, refl, more.2))

once_found : (ids kept before : List (List ℕ)) → IsSeen before kept → Kept before kept ids (once_of kept ids)
unfolding EachOnce
once_found [] kept before seen = ([], sym (append-nil kept), refl)
once_found (id ∷ ids) kept before seen =
    kept_case before kept id ids (has id named_purposes || has id kept) refl seen (once_found ids kept before seen) (once_found ids (kept ++ id ∷ []) (id ∷ before) (seen_more before kept id seen))

none_kept : IsSeen named_purposes []
none_kept x = (
  λ is. left (has x named_purposes) false (has_there x named_purposes is),
  λ told. elim (either (has x named_purposes) false told) [
    | inl flagged ↦ has_found x named_purposes flagged
    | inr wrong ↦ cc
  ],
)

sorted_others : (ids : List (List ℕ)) → EachOnce named_purposes ids (once_of [] ids)
sorted_others ids = let found = once_found ids [] named_purposes none_kept in subst (EachOnce named_purposes ids) (sym found.1) found.2

sorted_is : (ids : List (List ℕ)) → AreSorted ids (sorted ids)
sorted_is ids = record {
  any = tells any_extended_key_usage ids;
  server_auth = tells (id_kp 1) ids;
  client_auth = tells (id_kp 2) ids;
  code_signing = tells (id_kp 3) ids;
  email_protection = tells (id_kp 4) ids;
  time_stamping = tells (id_kp 8) ids;
  ocsp_signing = tells (id_kp 9) ids;
  other = sorted_others ids;
}

sorted_one : (ids : List (List ℕ)) (u : values.ExtendedKeyUsage) → AreSorted ids u → sorted ids ≡ u
sorted_one ids u is =
    let made = sorted_is ids in
    rw (
      tells_one any_extended_key_usage ids (has any_extended_key_usage ids) u.any made.any is.any,
      tells_one (id_kp 1) ids (has (id_kp 1) ids) u.server_auth made.server_auth is.server_auth,
      tells_one (id_kp 2) ids (has (id_kp 2) ids) u.client_auth made.client_auth is.client_auth,
      tells_one (id_kp 3) ids (has (id_kp 3) ids) u.code_signing made.code_signing is.code_signing,
      tells_one (id_kp 4) ids (has (id_kp 4) ids) u.email_protection made.email_protection is.email_protection,
      tells_one (id_kp 8) ids (has (id_kp 8) ids) u.time_stamping made.time_stamping is.time_stamping,
      tells_one (id_kp 9) ids (has (id_kp 9) ids) u.ocsp_signing made.ocsp_signing is.ocsp_signing,
      once_one named_purposes ids (once_of [] ids) u.other made.other is.other,
    ) refl

ids_reading : IsReading (ToEnd (One IsOid)) (ended (all_of oid_at))
ids_reading = all_reading IsOid _ oid_meaning

purposes_parts_reading : IsReading ExtendedKeyUsageParts purposes_parts_at
purposes_parts_reading = record {
  found = λ i v r below given.
      let ids = two (all_of oid_at i) _ (v, r) given in
      let is = ids_reading.found i ids.0 [] below (ap (λ (z : Answer (List (List ℕ))). z >>= λ w. Ok (w, [])) ids.1) in
      let both : ◌≡◌ {A = values.ExtendedKeyUsage × List ℕ} (sorted ids.0, []) (v, r) = cc in
      let parts : ExtendedKeyUsageParts i (sorted ids.0) [] = record { purposes = ids.0; each = is.0; sorted = sorted_is ids.0 } in
      subst (λ (z : values.ExtendedKeyUsage × List ℕ). ExtendedKeyUsageParts i z.0 z.1 × AllBelowBase 256 z.1) both (parts, tt);
  only = λ i v r below is.
      let read = two (all_of oid_at i) _ (is.purposes, r) (ids_reading.only i is.purposes r below is.each) in
      let both : ◌≡◌ {A = List (List ℕ) × List ℕ} (read.0, []) (is.purposes, r) = cc in
      let ids : read.0 ≡ is.purposes = ap (λ (z : List (List ℕ) × List ℕ). z.0) both in
      let none : [] ≡ r = ap (λ (z : List (List ℕ) × List ℕ). z.1) both in
      rw (read.1) (ap (λ z. Ok (sorted z, [])) ids ∙ ap (λ z. Ok (z, [])) (sorted_one is.purposes v is.sorted) ∙ ap (λ z. Ok (v, z)) none);
}

pub purposes_meaning : IsMeaning (HoldsSequence ExtendedKeyUsageParts) purposes_in
purposes_meaning = sequence_meaning ExtendedKeyUsageParts purposes_parts_at purposes_parts_reading

-- ---- those that were kept, as a set

abbrev pub by_octets : Bor (List ℕ) → Bor (List ℕ) → Ordering
by_octets = on (λ (b : Bor (List ℕ)). b.now) (slice_cmp nat_cmp)

-- the set has the octets of those that were kept
abbrev pub IsKept : List (List ℕ) → BTreeSet (Bor (List ℕ)) → Type 0
IsKept kept seen = (s : Bor (List ℕ)) → ordered.contains by_octets seen s ≡ has s.now kept

swap : (a b c : Bool) → (a || (b || c)) ≡ (b || (a || c))
swap true true c = refl
swap true false c = refl
swap false true c = refl
swap false false c = refl

has_more : (x id : List ℕ) (kept : List (List ℕ)) → has x (kept ++ id ∷ []) ≡ (bytes_eq id x || has x kept)
has_more x id [] = refl
has_more x id (y ∷ kept) = ap (λ z. bytes_eq y x || z) (has_more x id kept) ∙ swap (bytes_eq y x) (bytes_eq id x) (has x kept)

either_is : (a b c d : Bool) → a ≡ b → c ≡ d → (let x : Bool = cond a true c in x ≡ (b || d))
either_is true b c d p q = rw (sym p) refl
either_is false b c d p q = rw (sym p) q

pub kept_more : (kept : List (List ℕ)) (seen more : BTreeSet (Bor (List ℕ))) (id : Bor (List ℕ)) → IsKept kept seen
    → ((s : Bor (List ℕ)) → ordered.contains by_octets more s ≡ cond (eq_by_cmp (slice_cmp nat_cmp) id.now s.now) true (ordered.contains by_octets seen s)) → IsKept (kept ++ id.now ∷ []) more
kept_more kept seen more id is updates s =
    updates s ∙ either_is _ _ _ _ (is_eq-slice_cmp id.now s.now) (is s) ∙ sym (has_more s.now id.now kept)

-- one more is passed, or kept
pub passed : (kept : List (List ℕ)) (id : List ℕ) (ids all : List (List ℕ)) (b : Bool) → (has id named_purposes || has id kept) ≡ b → once_of kept (id ∷ ids) ≡ all
    → (if b then once_of kept ids else once_of (kept ++ id ∷ []) ids) ≡ all
passed kept id ids all true told is = rw (told) at is
passed kept id ids all false told is = rw (told) at is
