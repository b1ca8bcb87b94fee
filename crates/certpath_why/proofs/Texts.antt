-- Texts of the elements of a list, one after another.
use Rattle.std.proofs.Common.{◌≡◌, ◌∙◌, sym, ap, refl, subst, ℕ, ◌+◌, ◌<◌, ◌≤◌, List, [], ◌∷◌, ◌++◌, length, take, get_or, append_assoc}
use Rattle.std.specs.List.{flat_map}
use Rattle.std.proofs.lemmas.List.{append-nil, take_more, take_all, flat_map_more}
use Rattle.certpath_why.specs.Why.{AreTexts}
use Rattle.certpath_why.specs.Appended.{Appends}

-- ---- a line for each element

pub lines_none : {X : Type 0} (f : X → List ℕ) (xs : List X) (first : List ℕ) → first ≡ first ++ flat_map f (take 0 xs)
lines_none f xs first = sym (append-nil first)

pub lines_more : {X : Type 0} (f : X → List ℕ) (xs : List X) (k : ℕ) (d : X) (first text more : List ℕ) → k < length xs → text ≡ first ++ flat_map f (take k xs) → more ≡ text ++ f (get_or xs k d)
    → more ≡ first ++ flat_map f (take (k + 1) xs)
lines_more f xs k d first text more lt before is =
    is ∙ ap (λ t. t ++ f (get_or xs k d)) before ∙ flat_map_more f first (take k xs) (get_or xs k d) ∙ ap (λ l. first ++ flat_map f l) (sym (take_more xs k d lt))

pub lines_all : {X : Type 0} (f : X → List ℕ) (xs : List X) (k : ℕ) (first text : List ℕ) → length xs ≤ k → text ≡ first ++ flat_map f (take k xs) → text ≡ first ++ flat_map f xs
lines_all f xs k first text le before = before ∙ ap (λ l. first ++ flat_map f l) (take_all k xs le)

-- ---- a text with a property for each element

pub texts_append : {X : Type 0} (P : X → List ℕ → Type 0) (xs ys : List X) (a b : List ℕ) → AreTexts P xs a → AreTexts P ys b → AreTexts P (xs ++ ys) (a ++ b)
texts_append P [] ys a b e y = subst (AreTexts P ys) (sym (ap (λ l. l ++ b) e)) y
texts_append P (x ∷ xs) ys a b h y = (h.0, h.1 ++ b, h.2, texts_append P xs ys h.1 b h.3 y, ap (λ l. l ++ b) h.4 ∙ append_assoc h.0 h.1 b)

pub texts_one : {X : Type 0} (P : X → List ℕ → Type 0) (x : X) (a : List ℕ) → P x a → AreTexts P (x ∷ []) a
texts_one P x a p = (a, [], p, refl, sym (append-nil a))

pub texts_none : {X : Type 0} (P : X → List ℕ → Type 0) (xs : List X) (first : List ℕ) → Appends (AreTexts P (take 0 xs)) first first
texts_none P xs first = ([], sym (append-nil first), refl)

pub texts_more : {X : Type 0} (P : X → List ℕ → Type 0) (xs : List X) (k : ℕ) (d : X) (first text more : List ℕ) → k < length xs → Appends (AreTexts P (take k xs)) first text → Appends (P (get_or xs k d)) text more
    → Appends (AreTexts P (take (k + 1) xs)) first more
texts_more P xs k d first text more lt h t = (
  h.0 ++ t.0,
  t.1 ∙ ap (λ l. l ++ t.0) h.1 ∙ append_assoc first h.0 t.0,
  subst (λ l. AreTexts P l (h.0 ++ t.0)) (sym (take_more xs k d lt)) (texts_append P (take k xs) (get_or xs k d ∷ []) h.0 t.0 h.2 (texts_one P (get_or xs k d) t.0 t.2)),
)

pub texts_all : {X : Type 0} (P : X → List ℕ → Type 0) (xs : List X) (k : ℕ) (first text : List ℕ) → length xs ≤ k → Appends (AreTexts P (take k xs)) first text → Appends (AreTexts P xs) first text
texts_all P xs k first text le h = (h.0, h.1, subst (λ l. AreTexts P l h.0) (take_all k xs le) h.2)
