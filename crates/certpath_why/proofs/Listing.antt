-- Names in a list.
use Rattle.std.proofs.Common.{◌≡◌, ◌∙◌, ap, ap₂, sym, refl, ℕ, ◌-◌, List, [], ◌∷◌, ◌++◌, take, map}
use Rattle.std.specs.Prelude.{codes}
use Rattle.std.specs.List.{flat_map}
use Rattle.std.proofs.lemmas.List.{take-map, length-map}
use Rattle.std.proofs.lemmas.List.Folds.{flat_map-map}
use Rattle.certpath_why.specs.Listed.{most_names, shown_part, more_words, listed}

-- the parts of a list that is written
abbrev others_of : {X : Type 0} → (X → List ℕ) → List X → List ℕ
others_of f xs = flat_map (λ y. codes ", " ++ shown_part (f y)) (take (most_names - 1) xs)

-- a list of views
pub listed_map : {X Y : Type 0} (f : Y → List ℕ) (g : X → Y) (xs : List X) → listed (λ x. f (g x)) xs ≡ listed f (map g xs)
listed_map f g [] = refl
listed_map f g (x ∷ xs) =
    let others : others_of (λ z. f (g z)) xs ≡ others_of f (map g xs) =
    sym (flat_map-map (λ y. codes ", " ++ shown_part (f y)) g (take (most_names - 1) xs)) ∙ ap (flat_map (λ y. codes ", " ++ shown_part (f y))) (sym (take-map g (most_names - 1) xs)) in
    ap₂ (λ (o : List ℕ) (n : ℕ). shown_part (f (g x)) ++ (o ++ more_words (n - (most_names - 1)))) others (sym (length-map xs g))
