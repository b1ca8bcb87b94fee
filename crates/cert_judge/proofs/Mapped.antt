-- What holds of each element's view.
use Rattle.std.specs.Prelude.{◌↔◌, IsTrue}
use Rattle.std.proofs.Common.{◌≡◌, ◌∙◌, ap, sym, subst, refl, ℕ, ◌+◌, ◌<◌, ◌≤◌, Bool, true, false, List, [], ◌∷◌, map, length, arith, get_or, inl, inr}
use Rattle.std.proofs.lemmas.Bool.{cases_lt}
use Rattle.std.specs.List.{All, Any, Contains}
use Rattle.std.proofs.lemmas.List.{get_or-map, length-map, get_or_default}
use Rattle.std.proofs.lemmas.List.Elements.{All-map}

pub all_views : {X Y : Type 0} (f : X → Y) (P : Y → Type 0) (xs : List X) → All P (map f xs) → All (λ x. P (f x)) xs
all_views f P xs h k d lt = subst P (get_or-map f xs k d (f d) lt) (h k (f d) (subst (λ n. k < n) (sym (length-map xs f)) lt))

pub all_mapped : {X Y : Type 0} (f : X → Y) (P : Y → Type 0) (xs : List X) (b : Bool) → (IsTrue b ↔ All (λ x. P (f x)) xs) → (IsTrue b ↔ All P (map f xs))
all_mapped f P xs b h = (λ t. All-map P f xs (h.0 t), λ a. h.1 (all_views f P xs a))

pub some_at : {X Y : Type 0} (f : X → Y) (P : Y → Type 0) (xs : List X) (k : ℕ) (d : X) → k < length xs → P (f (get_or xs k d)) → (y : Y) × Contains (map f xs) y × P y
some_at f P xs k d lt h =
    let y = f (get_or xs k d) in
    (y, (k, subst (λ n. k < n) (sym (length-map xs f)) lt, get_or-map f xs k d y lt), h)

-- none up to here has it, and this one neither
pub none_more : {X Y : Type 0} (f : X → Y) (P : Y → Type 0) (xs : List X) (i : ℕ) (x : X) → i < length xs → ((k : ℕ) (d : Y) → k < i → P (get_or (map f xs) k d) → ⊥) → (P (f (get_or xs i x)) → ⊥)
    → (k : ℕ) (d : Y) → k < i + 1 → P (get_or (map f xs) k d) → ⊥
none_more f P xs i x lt before here k d below h =
    elim (cases_lt k i) [
      | inl less ↦ before k d less h
      | inr more ↦
          let same : k ≡ i = omega arith in
          here (subst P (get_or-map f xs i x d lt) (subst (λ j. P (get_or (map f xs) j d)) same h))
    ]

pub none_at_all : {X Y : Type 0} (f : X → Y) (P : Y → Type 0) (xs : List X) (i : ℕ) → length xs ≤ i → ((k : ℕ) (d : Y) → k < i → P (get_or (map f xs) k d) → ⊥)
    → (y : Y) → Contains (map f xs) y → P y → ⊥
none_at_all f P xs i le none y at h =
    let long = length-map xs f in
    let place = at.1 in
    none at.0 y (omega arith) (subst P (sym at.2) h)

pub any_to : {X Y : Type 0} (f : X → Y) (P : Y → Type 0) (xs : List X) → Any (λ x. P (f x)) xs → Any P (map f xs)
any_to f P xs h = (h.0, f h.1, subst (λ n. h.0 < n) (sym (length-map xs f)) h.2, get_or-map f xs h.0 h.1 (f h.1) h.2 ∙ ap f h.3, h.4)

pub any_from : {X Y : Type 0} (f : X → Y) (P : Y → Type 0) (xs : List X) → Any P (map f xs) → Any (λ x. P (f x)) xs
any_from f P [] h = absurd (omega (arith, h.2))
any_from f P (z ∷ zs) h =
    let lt : h.0 < length (z ∷ zs) = subst (λ n. h.0 < n) (length-map (z ∷ zs) f) h.2 in
    let x = get_or (z ∷ zs) h.0 z in
    let same : f x ≡ h.1 = sym (get_or-map f (z ∷ zs) h.0 z h.1 lt) ∙ h.3 in
    (h.0, x, lt, get_or_default (z ∷ zs) h.0 x z lt, subst P (sym same) h.4)

pub any_mapped : {X Y : Type 0} (f : X → Y) (P : Y → Type 0) (xs : List X) (b : Bool) → (IsTrue b ↔ Any (λ x. P (f x)) xs) → (IsTrue b ↔ Any P (map f xs))
any_mapped f P xs b h = (λ t. any_to f P xs (h.0 t), λ a. h.1 (any_from f P xs a))

pub any_found : {X : Type 0} (P : X → Type 0) (xs : List X) (k : ℕ) (x : X) → k < length xs → x ≡ get_or xs k x → P x → Any P xs
any_found P xs k x lt is h = (k, x, lt, sym is, h)

pub none_step : {X : Type 0} (P : X → Type 0) (xs : List X) (i : ℕ) (x : X) → i < length xs → x ≡ get_or xs i x → ((k : ℕ) (d : X) → k < i → P (get_or xs k d) → ⊥) → (P x → ⊥)
    → (k : ℕ) (d : X) → k < i + 1 → P (get_or xs k d) → ⊥
none_step P xs i x lt is before here k d below h =
    elim (cases_lt k i) [
      | inl less ↦ before k d less h
      | inr more ↦
          let same : k ≡ i = omega arith in
          here (subst P (get_or_default xs i d x lt ∙ sym is) (subst (λ j. P (get_or xs j d)) same h))
    ]

pub none_any : {X : Type 0} (P : X → Type 0) (xs : List X) (i : ℕ) → length xs ≤ i → ((k : ℕ) (d : X) → k < i → P (get_or xs k d) → ⊥) → Any P xs → ⊥
none_any P xs i le none h = let place = h.2 in none h.0 h.1 (omega arith) (subst P (sym h.3) h.4)

pub not_both : (b : Bool) → b ≡ true → b ≡ false → ⊥
not_both true t f = cc
not_both false t f = cc

pub map_twice : {X Y Z : Type 0} (f : X → Y) (g : Y → Z) (xs : List X) → map g (map f xs) ≡ map (λ x. g (f x)) xs
map_twice f g [] = refl
map_twice f g (x ∷ xs) = ap (λ ys. g (f x) ∷ ys) (map_twice f g xs)
