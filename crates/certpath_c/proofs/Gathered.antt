-- What was gathered of the first of some values, one after another.
use Rattle.std.proofs.Common.{◌≡◌, ◌∙◌, sym, ap, refl, ℕ, ◌+◌, ◌<◌, ◌≤◌, List, [], ◌∷◌, ◌++◌, length, map, take, get_or}
use Rattle.std.specs.List.{flat_map}
use Rattle.std.proofs.lemmas.List.{take_more, take_all, flat_map_more}
use Rattle.std.proofs.lemmas.List.Folds.{flat_map-map}

pub gathered_more : {X Y : Type 0} (f : X → List Y) (xs : List X) (i : ℕ) (d : X) (old new : List Y) → i < length xs → old ≡ flat_map f (take i xs) → new ≡ old ++ f (get_or xs i d) → new ≡ flat_map f (take (i + 1) xs)
gathered_more f xs i d old new lt so_far is =
    is ∙ ap (λ l. l ++ f (get_or xs i d)) so_far ∙ flat_map_more f [] (take i xs) (get_or xs i d) ∙ ap (flat_map f) (sym (take_more xs i d lt))

pub gathered_all : {X Y : Type 0} (f : X → List Y) (xs : List X) (i : ℕ) (found : List Y) → length xs ≤ i → found ≡ flat_map f (take i xs) → found ≡ flat_map f xs
gathered_all f xs i found le so_far = so_far ∙ ap (flat_map f) (take_all i xs le)

-- of values that are seen through a view
pub gathered_view : {X Y Z : Type 0} (f : Y → List Z) (v : X → Y) (xs : List X) → flat_map (λ x. f (v x)) xs ≡ flat_map f (map v xs)
gathered_view f v xs = sym (flat_map-map f v xs)

pub mapped_view : {X Y Z : Type 0} (f : Y → Z) (v : X → Y) (xs : List X) → map (λ x. f (v x)) xs ≡ map f (map v xs)
mapped_view f v [] = refl
mapped_view f v (x ∷ xs) = ap (λ l. f (v x) ∷ l) (mapped_view f v xs)
