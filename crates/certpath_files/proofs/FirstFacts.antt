-- The first octets of a block say what all of them begin with.
use Rattle.std.proofs.Common.{◌≡◌, ◌≢◌, ◌∙◌, sym, ap, subst, refl, ℕ, ◌+◌, ◌-◌, ◌/◌, ◌%◌, ◌^◌, ◌==◌, ◌<◌, ◌≤◌, Bool, true, false, Option, Some, None, List, [], ◌∷◌, ◌++◌, length, take, drop, Ok, Err, arith, length-append, length-drop, length-take, inl, inr, ◌⊎◌}
use Rattle.std.specs.Prelude.{nat_lt, not, ◌&&◌, ◌||◌, if◌then◌else◌}
use Rattle.std.specs.Int.Digits.{number_from_digits}
use Rattle.std.proofs.lemmas.List.{take-append-le, drop-append-le, take-append-drop, take_all}
use Rattle.std.proofs.lemmas.Bool.{cases_lt, cases_eq, ne_eqb, eq-eqb, le-ltb, lt-ltb}
use Rattle.base64.specs.GeneralPurpose.{IsBytes}
use Rattle.asn1_core.specs.Strict.{Head}
use Rattle.asn1_core.specs.Views.{Identity}
use Rattle.asn1_core.specs.Answers.{Answer, then_read, refuse}
use Rattle.asn1_core.specs.declared.error.Error.TheVariants as errors
use Rattle.asn1_core.proofs.Cases.{same_answer}
use Rattle.asn1_core.specs.Reading.{tag_at, identity_at, size_at, length_at, definite_head, header_at, is_short_identifier, is_short_length, strict_head, strict_at}
use Rattle.certpath_pem.specs.Blocks.{Content, octets, unended, headers, empty, no_base64}
use Rattle.certpath_pem.specs.Starts.{start_of, count_of}
use Rattle.certpath_files.specs.Fronts.{Front, whole, passed, stops, no_sequence, too_long, long_form, most, is_sequence, sized, by_header, by_lenient, by_strict, front_of}
use Rattle.certpath_files.specs.Rows.{Spot}
use Rattle.certpath_files.specs.Sequences.{Wanted, sequence_rows}
use Rattle.certpath_files.specs.Blocks.{after_rows, content_rows, octet_rows, front_rows}
use Rattle.certpath_files.specs.Firsts.{begun_rows, first_rows, start_rows, begins_high, is_enough, HoldsOctets}

-- ---- what a front shows in a row: of what is no item the fault alone

abbrev shows : Front → Front
shows (whole size) = whole size
shows (passed fault size) = stops fault
shows (stops fault) = stops fault

rows_shown : (wanted : Wanted) (may_go_on : Bool) (spot : Spot) (o : List ℕ) (front : Front) → front_rows wanted may_go_on spot o front ≡ front_rows wanted may_go_on spot o (shows front)
rows_shown wanted may_go_on spot o (whole size) = refl
rows_shown wanted may_go_on spot o (passed fault size) = refl
rows_shown wanted may_go_on spot o (stops fault) = refl

begun_shown : (wanted : Wanted) (may_go_on : Bool) (spot : Spot) (o : List ℕ) (count : ℕ) (front : Front) → begun_rows wanted may_go_on spot o count front ≡ begun_rows wanted may_go_on spot o count (shows front)
begun_shown wanted may_go_on spot o count (whole size) = refl
begun_shown wanted may_go_on spot o count (passed fault size) = refl
begun_shown wanted may_go_on spot o count (stops fault) = refl

-- ---- readings of octets that go on

-- the answer over more octets
abbrev more : {A : Type 0} → List ℕ → Answer A → Answer A
more q (Ok x) = Ok (x.0, x.1 ++ q)
more q (Err e) = Err e

-- what is left is as long as the octets, but for so many
abbrev IsNear : {A : Type 0} → ℕ → ℕ → Answer A → Type 0
IsNear count size (Ok x) = (size ≤ length x.1 + count) × (length x.1 ≤ size)
IsNear count size (Err e) = Unit {0}

then_more : {A B : Type 0} (q : List ℕ) (r : Answer A) (f g : A → List ℕ → Answer B) → ((x : A) (s : List ℕ) → f x (s ++ q) ≡ more q (g x s)) → then_read (more q r) f ≡ more q (then_read r g)
then_more q (Ok x) f g h = h x.0 x.1
then_more q (Err e) f g h = refl

then_near : {A B : Type 0} (count size : ℕ) (r : Answer A) (f : A → List ℕ → Answer B) → ((x : A) (s : List ℕ) → (size ≤ length s + count) × (length s ≤ size) → IsNear count size (f x s)) → IsNear count size r → IsNear count size (then_read r f)
then_near count size (Ok x) f h near = h x.0 x.1 near
then_near count size (Err e) f h near = tt

chosen_more : {A : Type 0} (q : List ℕ) (b : Bool) (r s t u : Answer A) → r ≡ more q s → t ≡ more q u → (if b then r else t) ≡ more q (if b then s else u)
chosen_more q true r s t u e f = e
chosen_more q false r s t u e f = f

chosen_near : {A : Type 0} (count size : ℕ) (b : Bool) (r s : Answer A) → (b ≡ true → IsNear count size r) → (b ≡ false → IsNear count size s) → IsNear count size (if b then r else s)
chosen_near count size true r s f g = f refl
chosen_near count size false r s f g = g refl

size_more : (count : ℕ) (k q : List ℕ) → count ≤ length k → size_at count (k ++ q) ≡ more q (size_at count k)
unfolding size_at
size_more count k q fits =
    let all : nat_lt (length (k ++ q)) count ≡ false = le-ltb (length (k ++ q)) count (omega (arith, fits, length-append k q)) in
    let enough : nat_lt (length k) count ≡ false = le-ltb (length k) count fits in
    rw (all, enough, take-append-le count k q fits, drop-append-le count k q fits)
    (chosen_more q (nat_lt (number_from_digits 256 (take count k)) (2 ^ 64)) _ _ _ _ refl refl)

size_near : (count : ℕ) (k : List ℕ) → count ≤ 126 → IsNear 126 (length k) (size_at count k)
unfolding size_at
size_near count k few =
    chosen_near 126 (length k) (nat_lt (length k) count) _ _ (λ e. tt) (λ e.
    chosen_near 126 (length k) (nat_lt (number_from_digits 256 (take count k)) (2 ^ 64)) _ _
    (λ f. (omega (arith, length-drop count k, few), omega (arith, length-drop count k))) (λ f. tt))

length_more : (l : ℕ) (k q : List ℕ) → l < 256 → 126 ≤ length k → length_at (l ∷ (k ++ q)) ≡ more q (length_at (l ∷ k))
unfolding length_at
length_more l k q byte long = elim (cases_eq l 255) [
  | inl is ↦ rw is refl
  | inr other ↦
      let few : l - 128 ≤ length k = omega (arith, long, byte, other) in
      chosen_more q (nat_lt l 128) _ _ _ _ refl
      (chosen_more q (l == 128) _ _ _ _ refl
      (chosen_more q (l == 255) _ _ _ _ refl (size_more (l - 128) k q few)))
]

length_near : (l : ℕ) (k : List ℕ) → l < 256 → IsNear 126 (length k) (length_at (l ∷ k))
unfolding length_at
length_near l k byte =
    chosen_near 126 (length k) (nat_lt l 128) _ _ (λ e. (omega arith, omega arith)) (λ e.
    chosen_near 126 (length k) (l == 128) _ _ (λ f. (omega arith, omega arith)) (λ f.
    chosen_near 126 (length k) (l == 255) _ _ (λ g. tt) (λ g.
    let other : l ≢ 255 = λ is. not_both (l == 255) (eq-eqb l 255 is) g in
    size_near (l - 128) k (omega (arith, byte, other)))))
  where
    not_both : (b : Bool) → b ≡ true → b ≡ false → ⊥
    not_both true e f = cc
    not_both false e f = cc

definite_more : (q : List ℕ) (id : Identity) (size : Option ℕ) (rest : List ℕ) → definite_head id size (rest ++ q) ≡ more q (definite_head id size rest)
definite_more q id (Some n) rest = refl
definite_more q id None rest = refl

definite_near : (count far : ℕ) (id : Identity) (size : Option ℕ) (rest : List ℕ) → (far ≤ length rest + count) × (length rest ≤ far) → IsNear count far (definite_head id size rest)
definite_near count far id (Some n) rest near = near
definite_near count far id None rest near = tt

strict_more : (q : List ℕ) (id : Identity) (l next : ℕ) (k : List ℕ) (size : Option ℕ) (rest : List ℕ) → strict_head id (l ∷ next ∷ (k ++ q)) size (rest ++ q) ≡ more q (strict_head id (l ∷ next ∷ k) size rest)
strict_more q id l next k None rest = refl
strict_more q id l next k (Some n) rest = chosen_more q (is_short_length (l ∷ next ∷ k) n) _ _ _ _ refl refl

strict_near : (count far : ℕ) (id : Identity) (after : List ℕ) (size : Option ℕ) (rest : List ℕ) → (far ≤ length rest + count) × (length rest ≤ far) → IsNear count far (strict_head id after size rest)
strict_near count far id after None rest near = tt
strict_near count far id after (Some n) rest near = chosen_near count far (is_short_length after n) _ _ (λ e. near) (λ e. tt)

-- a SEQUENCE whose tag is in its one octet
abbrev sequence : Identity
sequence = record { class = 0; constructed = true; tag = 16 }

header_by : (rest : List ℕ) → header_at (48 ∷ rest) ≡ then_read (length_at rest) (λ size after. definite_head sequence size after)
unfolding header_at identity_at
header_by rest = refl

strict_by : (l : ℕ) (rest : List ℕ) → strict_at (48 ∷ l ∷ rest) ≡ then_read (length_at (l ∷ rest)) (λ size after. strict_head sequence (l ∷ rest) size after)
unfolding strict_at identity_at
strict_by l rest = refl

header_more : (l : ℕ) (k q : List ℕ) → l < 256 → 126 ≤ length k → header_at (48 ∷ l ∷ (k ++ q)) ≡ more q (header_at (48 ∷ l ∷ k))
header_more l k q byte long =
    header_by (l ∷ (k ++ q)) ∙ ap (λ r. then_read r (λ size after. definite_head sequence size after)) (length_more l k q byte long)
    ∙ then_more q (length_at (l ∷ k)) (λ size after. definite_head sequence size after) (λ size after. definite_head sequence size after) (λ size after. definite_more q sequence size after)
    ∙ ap (more q) (sym (header_by (l ∷ k)))

header_near : (l : ℕ) (k : List ℕ) → l < 256 → IsNear 126 (length k) (header_at (48 ∷ l ∷ k))
header_near l k byte =
    subst (IsNear 126 (length k)) (sym (header_by (l ∷ k)))
    (then_near 126 (length k) (length_at (l ∷ k)) (λ size after. definite_head sequence size after) (λ size after near. definite_near 126 (length k) sequence size after near) (length_near l k byte))

strictly_more : (l next : ℕ) (k q : List ℕ) → l < 256 → 125 ≤ length k → strict_at (48 ∷ l ∷ next ∷ (k ++ q)) ≡ more q (strict_at (48 ∷ l ∷ next ∷ k))
strictly_more l next k q byte long =
    strict_by l (next ∷ (k ++ q)) ∙ ap (λ r. then_read r (λ size after. strict_head sequence (l ∷ next ∷ (k ++ q)) size after)) (length_more l (next ∷ k) q byte (omega (arith, long)))
    ∙ then_more q (length_at (l ∷ next ∷ k)) (λ size after. strict_head sequence (l ∷ next ∷ (k ++ q)) size after) (λ size after. strict_head sequence (l ∷ next ∷ k) size after)
    (λ size after. strict_more q sequence l next k size after)
    ∙ ap (more q) (sym (strict_by l (next ∷ k)))

strictly_near : (l : ℕ) (k : List ℕ) → l < 256 → IsNear 126 (length k) (strict_at (48 ∷ l ∷ k))
strictly_near l k byte =
    subst (IsNear 126 (length k)) (sym (strict_by l k))
    (then_near 126 (length k) (length_at (l ∷ k)) (λ size after. strict_head sequence (l ∷ k) size after) (λ size after near. strict_near 126 (length k) sequence (l ∷ k) size after near) (length_near l k byte))

-- ---- fronts

-- the size of an item that has room among the first octets, and of what is too long for one
sized_alike : (strict : Bool) (header size room far : ℕ) → most ≤ room → room ≤ far → shows (sized strict header size far) ≡ shows (sized strict header size room)
sized_alike strict header size room far large further = elim (cases_lt most size) [
  | inl long ↦
      let over : nat_lt most size ≡ true = lt-ltb most size long in
      rw over (both (nat_lt far size) (nat_lt room size))
  | inr few ↦
      let there : nat_lt room size ≡ false = le-ltb room size (omega (arith, few, large)) in
      let too : nat_lt far size ≡ false = le-ltb far size (omega (arith, few, large, further)) in
      rw (there, too) refl
]
  where
    both : (a b : Bool) → shows (if a then stops too_long else passed too_long (header + size)) ≡ shows (if b then stops too_long else passed too_long (header + size))
    both true true = refl
    both true false = refl
    both false true = refl
    both false false = refl

header_alike : (strict : Bool) (p q : List ℕ) (h : Head) (after : List ℕ) → most ≤ length after → length after ≤ length p → shows (by_header strict (p ++ q) h (after ++ q)) ≡ shows (by_header strict p h after)
header_alike strict p q h after large within = by (is_sequence h)
  where
    same : length (p ++ q) - length (after ++ q) ≡ length p - length after
    same = omega (arith, length-append p q, length-append after q, within)

    by : (b : Bool) → shows (if b then sized strict (length (p ++ q) - length (after ++ q)) h.size (length (after ++ q)) else stops no_sequence) ≡ shows (if b then sized strict (length p - length after) h.size (length after) else stops no_sequence)
    by true = ap (λ n. shows (sized strict n h.size (length (after ++ q)))) same ∙ sized_alike strict (length p - length after) h.size (length after) (length (after ++ q)) large (omega (arith, length-append after q))
    by false = refl

lenient_alike : (f : ℕ) (p q : List ℕ) (size : ℕ) (r : Answer Head) → most + 126 ≤ size → size ≤ length (f ∷ p) → IsNear 126 size r → shows (by_lenient (f ∷ (p ++ q)) (more q r)) ≡ shows (by_lenient (f ∷ p) r)
lenient_alike f p q size (Ok x) long within near = header_alike false (f ∷ p) q x.0 x.1 (omega (arith, near.0, long)) (omega (arith, near.1, within))
lenient_alike f p q size (Err e) long within near = refl

strict_alike : (f : ℕ) (p q : List ℕ) (size : ℕ) (r s : Answer Head) → most + 126 ≤ size → size ≤ length (f ∷ p) → IsNear 126 size r → IsNear 126 size s → header_at (f ∷ p) ≡ s → header_at (f ∷ (p ++ q)) ≡ more q s
    → shows (by_strict (f ∷ (p ++ q)) (more q r)) ≡ shows (by_strict (f ∷ p) r)
strict_alike f p q size (Ok x) s long within near next e g = header_alike true (f ∷ p) q x.0 x.1 (omega (arith, near.0, long)) (omega (arith, near.1, within))
strict_alike f p q size (Err x) s long within near next e g = ap (λ z. shows (by_lenient (f ∷ (p ++ q)) z)) g ∙ lenient_alike f p q size s long within next ∙ sym (ap (λ z. shows (by_lenient (f ∷ p) z)) e)

sequence_alike : (l next : ℕ) (k q : List ℕ) → l < 256 → most + 126 ≤ length (next ∷ k) → shows (front_of (48 ∷ l ∷ next ∷ (k ++ q))) ≡ shows (front_of (48 ∷ l ∷ next ∷ k))
sequence_alike l next k q byte long =
    let enough : 125 ≤ length k = omega (arith, long) in
    let more_enough : 126 ≤ length (next ∷ k) = omega (arith, long) in
    ap (λ z. shows (by_strict (48 ∷ l ∷ next ∷ (k ++ q)) z)) (strictly_more l next k q byte enough)
    ∙ strict_alike 48 (l ∷ next ∷ k) q (length (next ∷ k)) (strict_at (48 ∷ l ∷ next ∷ k)) (header_at (48 ∷ l ∷ next ∷ k)) long (omega arith) (strictly_near l (next ∷ k) byte) (header_near l (next ∷ k) byte) refl (header_more l (next ∷ k) q byte more_enough)

-- no other first octet begins a SEQUENCE, but for one of the high form
abbrev IsOther : Answer Head → Type 0
IsOther (Ok x) = is_sequence x.0 ≡ false
IsOther (Err e) = Unit {0}

then_other : {A : Type 0} (r : Answer A) (f : A → List ℕ → Answer Head) → ((x : A) (s : List ℕ) → IsOther (f x s)) → IsOther (then_read r f)
then_other (Ok x) f h = h x.0 x.1
then_other (Err e) f h = tt

second_false : (c d : Bool) → (c && false && d) ≡ false
second_false true d = refl
second_false false d = refl

third_false : (c d : Bool) → (c && d && false) ≡ false
third_false true true = refl
third_false true false = refl
third_false false d = refl

no_sequence_tag : (f tag : ℕ) → f ≢ 48 → f ≢ 63 → (f % 32 < 31 → tag ≡ f % 32) → f % 32 < 32 → ((f / 64 == 0) && (f / 32 % 2 == 1) && (tag == 16)) ≡ false
no_sequence_tag f tag a b low small = by (cases_eq (f / 64) 0) (cases_eq (f / 32 % 2) 1) (cases_eq tag 16)
  where
    by : (f / 64 ≡ 0) ⊎ (f / 64 ≢ 0) → (f / 32 % 2 ≡ 1) ⊎ (f / 32 % 2 ≢ 1) → (tag ≡ 16) ⊎ (tag ≢ 16) → ((f / 64 == 0) && (f / 32 % 2 == 1) && (tag == 16)) ≡ false
    by (inr x) y z = rw (ne_eqb (f / 64) 0 x) refl
    by (inl x) (inr y) z = rw (ne_eqb (f / 32 % 2) 1 y) (second_false (f / 64 == 0) (tag == 16))
    by (inl x) (inl y) (inr z) = rw (ne_eqb tag 16 z) (third_false (f / 64 == 0) (f / 32 % 2 == 1))
    by (inl x) (inl y) (inl z) = absurd (elim (cases_lt (f % 32) 31) [
      | inl one ↦ let t : tag ≡ f % 32 = low one in a (omega (arith, x, y, z, t))
      | inr high ↦ b (omega (arith, x, y, high, small))
    ])

abbrev IsIdentified : ℕ → Answer Identity → Type 0
IsIdentified f (Ok x) = (x.0.class ≡ f / 64) × (x.0.constructed ≡ (f / 32 % 2 == 1)) × (f % 32 < 31 → x.0.tag ≡ f % 32)
IsIdentified f (Err e) = Unit {0}

then_identified : (f : ℕ) (r : Answer ℕ) → ((x : ℕ) (s : List ℕ) → r ≡ Ok (x, s) → f % 32 < 31 → x ≡ f % 32)
    → IsIdentified f (then_read r (λ tag after. Ok (record { class = f / 64; constructed = f / 32 % 2 == 1; tag = tag }, after)))
then_identified f (Ok x) h = (refl, refl, h x.0 x.1 refl)
then_identified f (Err e) h = tt

identified : (f : ℕ) (rest : List ℕ) → IsIdentified f (identity_at (f ∷ rest))
unfolding identity_at
identified f rest = then_identified f (tag_at (f % 32) rest) (λ x s e low. tag_is x s e low)
  where
    tag_is : (x : ℕ) (s : List ℕ) → tag_at (f % 32) rest ≡ Ok (x, s) → f % 32 < 31 → x ≡ f % 32
    tag_is x s e low =
        let one : nat_lt (f % 32) 31 ≡ true = lt-ltb (f % 32) 31 low in
        sym (same_answer (f % 32) x rest s (sym (rw one refl) ∙ e)).0

other_head : (f : ℕ) (x : Identity) (n : ℕ) → f ≢ 48 → f ≢ 63 → x.class ≡ f / 64 → x.constructed ≡ (f / 32 % 2 == 1) → (f % 32 < 31 → x.tag ≡ f % 32)
    → is_sequence (record { class = x.class; constructed = x.constructed; tag = x.tag; size = n }) ≡ false
other_head f x n a b class constructed tag = rw (class, constructed) (no_sequence_tag f x.tag a b tag (omega arith))

other_definite : (f : ℕ) (x : Identity) (size : Option ℕ) (rest : List ℕ) → f ≢ 48 → f ≢ 63 → x.class ≡ f / 64 → x.constructed ≡ (f / 32 % 2 == 1) → (f % 32 < 31 → x.tag ≡ f % 32) → IsOther (definite_head x size rest)
other_definite f x (Some n) rest a b class constructed tag = other_head f x n a b class constructed tag
other_definite f x None rest a b class constructed tag = tt

if_other : (b : Bool) (r s : Answer Head) → IsOther r → IsOther s → IsOther (if b then r else s)
if_other true r s h k = h
if_other false r s h k = k

other_strict : (f : ℕ) (x : Identity) (after : List ℕ) (size : Option ℕ) (rest : List ℕ) → f ≢ 48 → f ≢ 63 → x.class ≡ f / 64 → x.constructed ≡ (f / 32 % 2 == 1) → (f % 32 < 31 → x.tag ≡ f % 32)
    → IsOther (strict_head x after size rest)
other_strict f x after None rest a b class constructed tag = tt
other_strict f x after (Some n) rest a b class constructed tag = if_other (is_short_length after n) _ _ (other_head f x n a b class constructed tag) tt

header_other : (f : ℕ) (rest : List ℕ) → f ≢ 48 → f ≢ 63 → IsOther (header_at (f ∷ rest))
unfolding header_at
header_other f rest a b = by (identity_at (f ∷ rest)) (identified f rest)
  where
    by : (r : Answer Identity) → IsIdentified f r → IsOther (then_read r (λ id after. then_read (length_at after) (λ size last. definite_head id size last)))
    by (Ok x) h = then_other (length_at x.1) (λ size last. definite_head x.0 size last) (λ size last. other_definite f x.0 size last a b h.0 h.1 h.2)
    by (Err e) h = tt

strict_other : (f : ℕ) (rest : List ℕ) → f ≢ 48 → f ≢ 63 → IsOther (strict_at (f ∷ rest))
unfolding strict_at
strict_other f rest a b = by (identity_at (f ∷ rest)) (identified f rest)
  where
    by : (r : Answer Identity) → IsIdentified f r
        → IsOther (then_read r (λ id after. if is_short_identifier (f ∷ rest) id.tag then then_read (length_at after) (λ size last. strict_head id after size last) else refuse errors.InvalidTag))
    by (Ok x) h =
        if_other (is_short_identifier (f ∷ rest) x.0.tag) _ _ (then_other (length_at x.1) (λ size last. strict_head x.0 x.1 size last) (λ size last. other_strict f x.0 x.1 size last a b h.0 h.1 h.2)) tt
    by (Err e) h = tt

none_by_header : (strict : Bool) (s : List ℕ) (h : Head) (after : List ℕ) → is_sequence h ≡ false → by_header strict s h after ≡ stops no_sequence
none_by_header strict s h after none = rw none refl

none_by_lenient : (f : ℕ) (s : List ℕ) (r : Answer Head) → f ≢ 48 → IsOther r → by_lenient (f ∷ s) r ≡ stops no_sequence
none_by_lenient f s (Ok x) other h = none_by_header false (f ∷ s) x.0 x.1 h
none_by_lenient f s (Err e) other h = rw (ne_eqb f 48 other) refl

none_by_strict : (f : ℕ) (s : List ℕ) (r : Answer Head) → f ≢ 48 → f ≢ 63 → IsOther r → by_strict (f ∷ s) r ≡ stops no_sequence
none_by_strict f s (Ok x) a b h = none_by_header true (f ∷ s) x.0 x.1 h
none_by_strict f s (Err e) a b h = none_by_lenient f s (header_at (f ∷ s)) a (header_other f s a b)

other_front : (f : ℕ) (s : List ℕ) → f ≢ 48 → f ≢ 63 → front_of (f ∷ s) ≡ stops no_sequence
other_front f s a b = none_by_strict f s (strict_at (f ∷ s)) a b (strict_other f s a b)

-- ---- a whole front is within the octets

abbrev IsWithin : ℕ → Front → Type 0
IsWithin size (whole n) = n ≤ size
IsWithin size (passed fault n) = Unit {0}
IsWithin size (stops fault) = Unit {0}

sized_within : (strict : Bool) (header size room far : ℕ) → header + room ≤ far → IsWithin far (sized strict header size room)
sized_within strict header size room far fits = elim (cases_lt room size) [
  | inl short ↦ rw (lt-ltb room size short) tt
  | inr enough ↦ rw (le-ltb room size enough) (by strict (nat_lt most size) enough)
]
  where
    by : (a b : Bool) → size ≤ room → IsWithin far (if b then passed too_long (header + size) else if a then whole (header + size) else passed long_form (header + size))
    by a true enough = tt
    by true false enough = omega (arith, enough, fits)
    by false false enough = tt

header_within : (strict : Bool) (s : List ℕ) (h : Head) (after : List ℕ) → length after ≤ length s → IsWithin (length s) (by_header strict s h after)
header_within strict s h after n = by (is_sequence h)
  where
    by : (b : Bool) → IsWithin (length s) (if b then sized strict (length s - length after) h.size (length after) else stops no_sequence)
    by true = sized_within strict (length s - length after) h.size (length after) (length s) (omega (arith, n))
    by false = tt

lenient_within : (s : List ℕ) (size : ℕ) (r : Answer Head) → size ≤ length (48 ∷ s) → IsNear 126 size r → IsWithin (length (48 ∷ s)) (by_lenient (48 ∷ s) r)
lenient_within s size (Ok x) n near = header_within false (48 ∷ s) x.0 x.1 (omega (arith, near.1, n))
lenient_within s size (Err e) n near = tt

strict_within : (s : List ℕ) (size : ℕ) (r : Answer Head) → size ≤ length (48 ∷ s) → IsNear 126 size r → IsNear 126 size (header_at (48 ∷ s)) → IsWithin (length (48 ∷ s)) (by_strict (48 ∷ s) r)
strict_within s size (Ok x) n near next = header_within true (48 ∷ s) x.0 x.1 (omega (arith, near.1, n))
strict_within s size (Err e) n near next = lenient_within s size (header_at (48 ∷ s)) n next

sequence_within : (l : ℕ) (k : List ℕ) → l < 256 → IsWithin (length (48 ∷ l ∷ k)) (front_of (48 ∷ l ∷ k))
sequence_within l k byte = strict_within (l ∷ k) (length k) (strict_at (48 ∷ l ∷ k)) (omega arith) (strictly_near l k byte) (header_near l k byte)

-- ---- rows

rows_alike : (wanted : Wanted) (may_go_on : Bool) (spot : Spot) (p q : List ℕ) (front : Front) → IsWithin (length p) front → begun_rows wanted may_go_on spot p (length (p ++ q)) (shows front) ≡ front_rows wanted may_go_on spot (p ++ q) (shows front)
rows_alike wanted may_go_on spot p q (whole n) within = ap (λ z. sequence_rows wanted spot z ++ after_rows may_go_on spot (length (p ++ q) - n)) (sym (take-append-le n p q within))
rows_alike wanted may_go_on spot p q (passed fault n) within = refl
rows_alike wanted may_go_on spot p q (stops fault) within = refl

by_fronts : (wanted : Wanted) (may_go_on : Bool) (spot : Spot) (p q : List ℕ) (front other : Front) → IsWithin (length p) front → shows other ≡ shows front
    → begun_rows wanted may_go_on spot p (length (p ++ q)) front ≡ front_rows wanted may_go_on spot (p ++ q) other
by_fronts wanted may_go_on spot p q front other within e =
    begun_shown wanted may_go_on spot p (length (p ++ q)) front ∙ rows_alike wanted may_go_on spot p q front within
    ∙ ap (front_rows wanted may_go_on spot (p ++ q)) (sym e) ∙ sym (rows_shown wanted may_go_on spot (p ++ q) other)

first_alike : (wanted : Wanted) (may_go_on : Bool) (spot : Spot) (p q : List ℕ) → most + 128 ≤ length p → IsBytes p → begins_high p ≡ false → first_rows wanted may_go_on spot p (length (p ++ q)) ≡ octet_rows wanted may_go_on spot (p ++ q)
first_alike wanted may_go_on spot [] q long bytes low = absurd (omega (arith, long))
first_alike wanted may_go_on spot (f ∷ []) q long bytes low = absurd (omega (arith, long))
first_alike wanted may_go_on spot (f ∷ l ∷ []) q long bytes low = absurd (omega (arith, long))
first_alike wanted may_go_on spot (f ∷ l ∷ next ∷ k) q long bytes low = elim (cases_eq f 48) [
  | inl is ↦ subst (λ z. first_rows wanted may_go_on spot (z ∷ l ∷ next ∷ k) (length ((z ∷ l ∷ next ∷ k) ++ q)) ≡ octet_rows wanted may_go_on spot ((z ∷ l ∷ next ∷ k) ++ q)) (sym is) sequence
  | inr other ↦
      let none : f ≢ 63 = λ e. not_both (f == 63) (eq-eqb f 63 e) low in
      by_fronts wanted may_go_on spot (f ∷ l ∷ next ∷ k) q (front_of (f ∷ l ∷ next ∷ k)) (front_of (f ∷ l ∷ next ∷ (k ++ q)))
      (subst (IsWithin (length (f ∷ l ∷ next ∷ k))) (sym (other_front f (l ∷ next ∷ k) other none)) tt)
      (ap shows (other_front f (l ∷ next ∷ (k ++ q)) other none ∙ sym (other_front f (l ∷ next ∷ k) other none)))
]
  where
    not_both : (b : Bool) → b ≡ true → b ≡ false → ⊥
    not_both true e g = cc
    not_both false e g = cc

    sequence : first_rows wanted may_go_on spot (48 ∷ l ∷ next ∷ k) (length ((48 ∷ l ∷ next ∷ k) ++ q)) ≡ octet_rows wanted may_go_on spot ((48 ∷ l ∷ next ∷ k) ++ q)
    sequence =
        by_fronts wanted may_go_on spot (48 ∷ l ∷ next ∷ k) q (front_of (48 ∷ l ∷ next ∷ k)) (front_of (48 ∷ l ∷ next ∷ (k ++ q))) (sequence_within l (next ∷ k) (bytes 1))
        (sequence_alike l next k q (bytes 1) (omega (arith, long)))

all_begun : (wanted : Wanted) (may_go_on : Bool) (spot : Spot) (o : List ℕ) (front : Front) → begun_rows wanted may_go_on spot o (length o) front ≡ front_rows wanted may_go_on spot o front
all_begun wanted may_go_on spot o (whole size) = refl
all_begun wanted may_go_on spot o (passed fault size) = refl
all_begun wanted may_go_on spot o (stops fault) = refl

-- all octets are kept
pub whole_start : (wanted : Wanted) (may_go_on : Bool) (spot : Spot) (limit : ℕ) (content : Content) → count_of content ≤ limit → start_rows wanted may_go_on spot (start_of limit content) ≡ content_rows wanted may_go_on spot content
whole_start wanted may_go_on spot limit (octets o) fits =
    ap (λ z. first_rows wanted may_go_on spot z (length o)) (take_all limit o fits) ∙ all_begun wanted may_go_on spot o (front_of o)
whole_start wanted may_go_on spot limit unended fits = refl
whole_start wanted may_go_on spot limit headers fits = refl
whole_start wanted may_go_on spot limit empty fits = refl
whole_start wanted may_go_on spot limit no_base64 fits = refl

enough_low : (count size : ℕ) (high : Bool) → size < count → ((count == size) || not high) ≡ true → high ≡ false
enough_low count size true less e = absurd (let n = rw (ne_eqb count size (λ is. omega (arith, less, is))) at e in cc)
enough_low count size false less e = refl

-- enough of them are
pub enough_start : (wanted : Wanted) (may_go_on : Bool) (spot : Spot) (limit : ℕ) (content : Content) → most + 128 ≤ limit → is_enough (start_of limit content) ≡ true → HoldsOctets (start_of limit content)
    → start_rows wanted may_go_on spot (start_of limit content) ≡ content_rows wanted may_go_on spot content
enough_start wanted may_go_on spot limit (octets o) large enough bytes = elim (cases_lt limit (length o)) [
  | inl long ↦
      let size : length (take limit o) ≡ limit = omega (arith, length-take limit o, long) in
      let low = enough_low (length o) (length (take limit o)) (begins_high (take limit o)) (omega (arith, size, long)) enough in
      let both : take limit o ++ drop limit o ≡ o = take-append-drop limit o in
      ap (λ z. first_rows wanted may_go_on spot (take limit o) (length z)) (sym both)
      ∙ first_alike wanted may_go_on spot (take limit o) (drop limit o) (omega (arith, size, large)) bytes low ∙ ap (octet_rows wanted may_go_on spot) both
  | inr fits ↦ whole_start wanted may_go_on spot limit (octets o) fits
]
enough_start wanted may_go_on spot limit unended large enough bytes = refl
enough_start wanted may_go_on spot limit headers large enough bytes = refl
enough_start wanted may_go_on spot limit empty large enough bytes = refl
enough_start wanted may_go_on spot limit no_base64 large enough bytes = refl
