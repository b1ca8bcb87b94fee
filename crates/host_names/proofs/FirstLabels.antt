-- The first label of a name.
use Rattle.std.specs.Prelude.{if◌then◌else◌, ◌==◌, ◌||◌}
use Rattle.std.proofs.Common.{◌≡◌, ◌∙◌, ap, sym, subst, refl, ℕ, ◌+◌, ◌-◌, ◌<◌, ◌≤◌, Bool, true, false, List, [], ◌∷◌, ◌++◌, length, length-drop, get_or, take, drop, arith}
use Rattle.std.proofs.lemmas.Bool.{false≢true}
use Rattle.std.proofs.lemmas.List.{take-append-drop, take_more, drop_more, take_all}
use Rattle.std.proofs.lemmas.List.Folds.{list_any-append}
use Rattle.host_names.specs.Hosts.{lengthened, labels_of}
use Rattle.host_names.specs.HostNames.{has}

neither : (a b : Bool) → a ≡ false → b ≡ false → (a || (b || false)) ≡ false
neither true b e f = e
neither false true e f = f
neither false false e f = refl

pub none_before : (xs : List ℕ) (k : ℕ) → k < length xs → has 46 (take k xs) ≡ false → (get_or xs k 0 ≡ 46 → ⊥) → has 46 (take (k + 1) xs) ≡ false
none_before xs k lt h n =
    let e : (get_or xs k 0 == 46) ≡ false = grind arith in
    ap (has 46) (take_more xs k 0 lt) ∙ list_any-append (λ x. x == 46) (take k xs) (get_or xs k 0 ∷ []) ∙ neither (has 46 (take k xs)) (get_or xs k 0 == 46) h e

split_step : (b : Bool) (x : ℕ) (front back : List ℕ) → (has 46 front ≡ false → labels_of (front ++ 46 ∷ back) ≡ front ∷ labels_of back) → (b || has 46 front) ≡ false
    → (if b then [] ∷ labels_of (front ++ 46 ∷ back) else lengthened x (labels_of (front ++ 46 ∷ back))) ≡ (x ∷ front) ∷ labels_of back
split_step true x front back ih h = absurd (false≢true (sym h))
split_step false x front back ih h = ap (lengthened x) (ih h)

pub split_labels : (front back : List ℕ) → has 46 front ≡ false → labels_of (front ++ 46 ∷ back) ≡ front ∷ labels_of back
split_labels [] back h = refl
split_labels (x ∷ front) back h = split_step (x == 46) x front back (split_labels front back) h

one_step : (b : Bool) (x : ℕ) (xs : List ℕ) → (has 46 xs ≡ false → labels_of xs ≡ xs ∷ []) → (b || has 46 xs) ≡ false → (if b then [] ∷ labels_of xs else lengthened x (labels_of xs)) ≡ (x ∷ xs) ∷ []
one_step true x xs ih h = absurd (false≢true (sym h))
one_step false x xs ih h = ap (lengthened x) (ih h)

pub one_label : (xs : List ℕ) → has 46 xs ≡ false → labels_of xs ≡ xs ∷ []
one_label [] h = refl
one_label (x ∷ xs) h = one_step (x == 46) x xs (one_label xs) h

pub first_of : (xs : List ℕ) (k : ℕ) → k < length xs → has 46 (take k xs) ≡ false → get_or xs k 0 ≡ 46 → labels_of xs ≡ take k xs ∷ labels_of (drop (k + 1) xs)
first_of xs k lt h e =
    let here : xs ≡ take k xs ++ 46 ∷ drop (k + 1) xs = sym (take-append-drop k xs) ∙ ap (λ zs. take k xs ++ zs) (drop_more xs k 0 lt ∙ ap (λ z. z ∷ drop (k + 1) xs) e) in
    ap labels_of here ∙ split_labels (take k xs) (drop (k + 1) xs) h

pub only_one : (xs : List ℕ) (k : ℕ) → length xs ≤ k → has 46 (take k xs) ≡ false → labels_of xs ≡ xs ∷ []
only_one xs k le h = one_label xs (sym (ap (has 46) (take_all k xs le)) ∙ h)

-- the same as the code cuts it
pub cut_at : (xs : List ℕ) (k : ℕ) → k < length xs → has 46 (take k xs) ≡ false → get_or xs k 0 ≡ 46
    → (labels_of xs ≡ take k xs ∷ labels_of (take (length xs - (k + 1)) (drop (k + 1) xs))) × (length (take (length xs - (k + 1)) (drop (k + 1) xs)) < length xs)
cut_at xs k lt h e =
    let n = length-drop (k + 1) xs in
    let fits : length (drop (k + 1) xs) ≤ length xs - (k + 1) = omega arith in
    let all : take (length xs - (k + 1)) (drop (k + 1) xs) ≡ drop (k + 1) xs = take_all (length xs - (k + 1)) (drop (k + 1) xs) fits in
    let less : length (drop (k + 1) xs) < length xs = omega arith in
    subst (λ zs. (labels_of xs ≡ take k xs ∷ labels_of zs) × (length zs < length xs)) (sym all) (first_of xs k lt h e, less)
