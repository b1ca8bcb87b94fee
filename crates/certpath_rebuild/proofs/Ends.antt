-- Octets at the end of others, and what comes before them.
use Rattle.std.proofs.Common.{arith, ◌≡◌, ◌∙◌, sym, ap, subst, ℕ, ◌+◌, ◌-◌, true, false, List, [], ◌∷◌, ◌++◌, append_assoc, append-nil, drop, length, length-append, take, flat_map, Bool, Option, Some, None, Bor}
use Rattle.std.specs.Prelude.{nat_eq, MatchOption}
use Rattle.std.specs.Cmp.Lexicographic.{pointwise}
use Rattle.std.proofs.Math.Seq.{drop-append_seam}
use Rattle.std.proofs.lemmas.Grind.{flat_map-append}
use Rattle.std.proofs.lemmas.List.{append_cancel_right, take-append-drop}
use Rattle.std.proofs.lemmas.Slice.Eq.{bytes_eq-Decides}

-- others don't end with the octets
abbrev pub EndsWithout : List ℕ → List ℕ → Type 0
EndsWithout whole octets = (front : List ℕ) → whole ≡ front ++ octets → ⊥

-- what is returned: what comes before the octets, or none
abbrev pub Finds : List ℕ → List ℕ → Option (Bor (List ℕ)) → Type 0
Finds whole octets r = MatchOption r (EndsWithout whole octets) (λ front. whole ≡ front.now ++ octets)

pub finds_none : (whole octets : List ℕ) (r : Option (Bor (List ℕ))) → r ≡ None → EndsWithout whole octets → Finds whole octets r
finds_none whole octets r is without = subst (Finds whole octets) (sym is) without

-- the end that is as long as the octets is compared with them
abbrev pub end_is : List ℕ → List ℕ → Bool
end_is whole octets = pointwise nat_eq (drop (length whole - length octets) whole) octets

cut : (whole octets front : List ℕ) → end_is whole octets ≡ true → front ≡ take (length whole - length octets) whole → whole ≡ front ++ octets
cut whole octets front test is =
    let n = length whole - length octets in
    sym (take-append-drop n whole) ∙ ap (λ z. take n whole ++ z) ((bytes_eq-Decides (drop n whole) octets).0 test) ∙ ap (λ z. z ++ octets) (sym is)

not_cut : (whole octets : List ℕ) → end_is whole octets ≡ false → EndsWithout whole octets
not_cut whole octets test front is =
    let size : length whole - length octets ≡ length front = omega (arith, ap length is, length-append front octets) in
    let same : drop (length whole - length octets) whole ≡ octets = ap (λ (n : ℕ). drop n whole) size ∙ ap (drop (length front)) is ∙ drop-append_seam front octets in
    let equal : end_is whole octets ≡ true = (bytes_eq-Decides (drop (length whole - length octets) whole) octets).1 same in
    cc

pub finds_cut : (whole octets : List ℕ) (r : Option (Bor (List ℕ))) →
    MatchOption r (end_is whole octets ≡ false) (λ x. (end_is whole octets ≡ true) × (x.now ≡ take (length whole - length octets) whole) × (length x.now + length octets ≡ length whole)) →
    Finds whole octets r
finds_cut whole octets None test = not_cut whole octets test
finds_cut whole octets (Some x) found = cut whole octets x.now found.0 found.1

-- the last part isn't there
pub no_last : (whole xs ys : List ℕ) → EndsWithout whole ys → EndsWithout whole (xs ++ ys)
no_last whole xs ys without front is = without (front ++ xs) (is ∙ sym (append_assoc front xs ys))

-- the first part isn't before the last
no_first : (whole left xs ys : List ℕ) → whole ≡ left ++ ys → EndsWithout left xs → EndsWithout whole (xs ++ ys)
no_first whole left xs ys last without front is = without front (append_cancel_right left (front ++ xs) ys (sym last ∙ is ∙ sym (append_assoc front xs ys)))

-- the last part was there, and the first is looked for before it
pub finds_both : (whole left xs ys : List ℕ) (r : Option (Bor (List ℕ))) → whole ≡ left ++ ys → Finds left xs r → Finds whole (xs ++ ys) r
finds_both whole left xs ys None last without = no_first whole left xs ys last without
finds_both whole left xs ys (Some x) last first = last ∙ ap (λ z. z ++ ys) first ∙ append_assoc x.now xs ys

-- the parts after this one were there, and this one isn't
pub no_part : {A : Type 0} (f : A → List ℕ) (all rest ahead : List A) (part : A) (whole left taken : List ℕ) →
    whole ≡ left ++ taken → flat_map f rest ++ taken ≡ flat_map f all → rest ≡ ahead ++ part ∷ [] → EndsWithout left (f part) → EndsWithout whole (flat_map f all)
no_part f all rest ahead part whole left taken is parts last without =
    let split : flat_map f rest ≡ flat_map f ahead ++ f part = ap (flat_map f) last ∙ flat_map-append f ahead (part ∷ []) ∙ ap (λ z. flat_map f ahead ++ z) (append-nil (f part)) in
    subst (EndsWithout whole) (ap (λ z. z ++ taken) (sym split) ∙ parts) (no_first whole left (flat_map f ahead ++ f part) taken is (no_last left (flat_map f ahead) (f part) without))
