-- Values by identifier.
use Rattle.std.specs.Prelude.{◌≡◌, ℕ, List, [], ◌∷◌, map, Option, Some, None, option_map, bytes_eq, Vec}
use Rattle.std.specs.BTreeMap.{BTreeMap, get}
use Rattle.std.specs.Cmp.Lexicographic.{slice_cmp}
use Rattle.std.specs.Global.{Global}
use Rattle.std.specs.List.{filter}
use Rattle.std.specs.Ordering.{nat_cmp}

-- none if there is none
abbrev pub some_values : {A : Type 0} → List A → Option (List A)
some_values [] = None
some_values (x ∷ xs) = Some (x ∷ xs)

abbrev pub values_or_none : {A : Type 0} → Option (List A) → List A
values_or_none None = []
values_or_none (Some xs) = xs

-- the values of an identifier, in the order in which they come
abbrev pub values_of : {A B : Type 0} → (A → List ℕ) → (A → B) → List A → List ℕ → List B
values_of key value xs id = map value (filter (λ x. bytes_eq (key x) id) xs)

-- what a map by identifiers, given as their content octets, holds at one
abbrev pub held_at : {V : Type 0} → BTreeMap (List ℕ) (Vec V Global) → List ℕ → Option (List V)
held_at m id = option_map (λ v. v.items) (get (slice_cmp nat_cmp) m id)

-- the map holds at each identifier its values, in order, and nothing at others
abbrev pub Groups : {V A B : Type 0} → (V → B) → (A → List ℕ) → (A → B) → List A → BTreeMap (List ℕ) (Vec V Global) → Type 0
Groups see key value xs m = (id : List ℕ) → option_map (map see) (held_at m id) ≡ some_values (values_of key value xs id)
