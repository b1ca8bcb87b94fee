-- Lists that are moved, one by one, into groups.
use Rattle.std.proofs.Common.{◌≡◌, ◌≢◌, ℕ, ◌+◌, ◌<◌, ◌≤◌, List, [], ◌∷◌, ◌++◌, length, map, take, get_or, set, arith, ap, sym, ◌∙◌, subst, refl}
use Rattle.std.specs.Prelude.{All}
use Rattle.std.specs.List.Sorted.{IsStrictlyIncreasing}
use Rattle.std.proofs.lemmas.List.{get_or-map, length-map, take_more, get_or-set_other}
use Rattle.cert_graph.specs.Lists.{AreFilled}
use Rattle.cert_graph.proofs.Filled.{Vector, lists_of}

pub mapped_append : {A B : Type 0} (f : A → B) (xs ys : List A) → map f (xs ++ ys) ≡ map f xs ++ map f ys
mapped_append f [] ys = refl
mapped_append f (x ∷ xs) ys = ap (λ zs. f x ∷ zs) (mapped_append f xs ys)

-- what is still to be moved stays
pub left_kept : (xs ys : List Vector) (p : ℕ) (new : Vector) → ((j : ℕ) (d : Vector) → p ≤ j → get_or xs j d ≡ get_or ys j d)
    → (j : ℕ) (d : Vector) → p + 1 ≤ j → get_or (set xs p new) j d ≡ get_or ys j d
left_kept xs ys p new h j d above =
    let other : j ≢ p = omega arith in
    let from : p ≤ j = omega arith in
    get_or-set_other xs p j new d other ∙ h j d from

-- what is moved is what was there at first
pub moved : (xs ys : List Vector) (p : ℕ) (v r : Vector) → ((j : ℕ) (d : Vector) → p ≤ j → get_or xs j d ≡ get_or ys j d) → v ≡ r → r ≡ get_or xs p r → v ≡ get_or ys p v
moved xs ys p v r h e is = subst (λ (x : Vector). x ≡ get_or xs p x) (sym e) is ∙ h p v (omega arith)

-- one group more
pub made_more : {G : Type 0} (f : G → List ℕ) (groups : List G) (g : G) (ys : List Vector) (p : ℕ) (v : Vector) → p < length ys → map f groups ≡ take p (lists_of ys) → f g ≡ v.items → v ≡ get_or ys p v
    → map f (groups ++ g ∷ []) ≡ take (p + 1) (lists_of ys)
made_more f groups g ys p v within h own is =
    let inside : p < length (lists_of ys) = (let same = length-map ys (λ (x : Vector). x.items) in omega arith) in
    let read : get_or (lists_of ys) p [] ≡ v.items = get_or-map (λ (x : Vector). x.items) ys p v [] within ∙ ap (λ (x : Vector). x.items) (sym is) in
    mapped_append f groups (g ∷ []) ∙ ap (λ (xs : List (List ℕ)). xs ++ f g ∷ []) h ∙ ap (λ (x : List ℕ). take p (lists_of ys) ++ x ∷ []) (own ∙ sym read) ∙ sym (take_more (lists_of ys) p [] inside)

-- filled lists ascend, in their vectors
pub vectors_ascend : (R : ℕ → ℕ → Type 0) (n b : ℕ) (vectors : List Vector) → AreFilled R n b (lists_of vectors) → All (λ l. IsStrictlyIncreasing l.items) vectors
vectors_ascend R n b vectors h k d within =
    let count : length (lists_of vectors) ≡ n = h.count in
    let same = length-map vectors (λ (x : Vector). x.items) in
    let inside : k < n = omega arith in
    subst IsStrictlyIncreasing (get_or-map (λ (x : Vector). x.items) vectors k d [] within) (h.each k inside).ascends
