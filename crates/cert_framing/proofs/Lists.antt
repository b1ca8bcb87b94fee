-- Two ways to cut one list.
use Rattle.std.proofs.Common.{◌≡◌, ◌≢◌, List, [], ◌∷◌, ◌++◌, length, refl, sym, inl, inr, ◌⊎◌, arith}

-- fronts of one length are one, and so is what follows
pub same_fronts : {X : Type 0} (a b m r : List X) → length a ≡ length b → a ++ m ≡ b ++ r → (a ≡ b) × (m ≡ r)
same_fronts [] [] m r size e = (refl, e)
same_fronts [] (y ∷ b) m r size e = absurd (omega arith)
same_fronts (x ∷ a) [] m r size e = absurd (omega arith)
same_fronts {X} (x ∷ a) (y ∷ b) m r size e =
    let heads : x ≡ y = cc in
    let tails : a ++ m ≡ b ++ r = cc in
    let rest : (a ≡ b) × (m ≡ r) = same_fronts a b m r (omega arith) tails in
    let front : a ≡ b = rest.0 in
    (cc, rest.1)

-- of two fronts, one goes on from the other
pub front_cases : {X : Type 0} (a m i r : List X) → a ++ m ≡ i ++ r
    → ((x : List X) × (a ≡ i ++ x) × (r ≡ x ++ m)) ⊎ ((y : List X) × (y ≢ []) × (i ≡ a ++ y) × (m ≡ y ++ r))
front_cases a m [] r e = inl (a, refl, sym e)
front_cases [] m (b ∷ i) r e = inr (b ∷ i, (λ none. cc), refl, e)
front_cases {X} (x ∷ a) m (b ∷ i) r e =
    let heads : x ≡ b = cc in
    let tails : a ++ m ≡ i ++ r = cc in
    elim (front_cases a m i r tails) [
      | inl w ↦ (let same : a ≡ i ++ w.0 = w.1 in inl (w.0, cc, w.2))
      | inr w ↦ (let same : i ≡ a ++ w.0 = w.2 in inr (w.0, w.1, cc, w.3))
    ]

-- a list that goes on into no list is none
pub nil_from_append : {X : Type 0} (a b : List X) → [] ≡ a ++ b → b ≡ []
nil_from_append [] b e = sym e
nil_from_append (x ∷ a) b e = absurd cc
