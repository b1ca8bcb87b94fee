-- The last octet, and what stands before it.
use Rattle.std.specs.Prelude.{if◌then◌else◌, ◌==◌}
use Rattle.std.proofs.Common.{◌≡◌, ◌∙◌, ap, sym, refl, ℕ, ◌+◌, ◌-◌, ◌<◌, ◌≤◌, Bool, true, false, List, [], ◌∷◌, ◌++◌, length, length-append, get_or, take, arith}
use Rattle.std.proofs.lemmas.Bool.{false≢true, eqb-true, eq-eqb}
use Rattle.std.proofs.lemmas.List.{take-append-drop, drop_more, drop_all, take_at}
use Rattle.host_names.specs.HostNames.{without_dot}
use Rattle.host_names.specs.Refusals.{ends_in}

ends_last : (octet : ℕ) (front : List ℕ) (x : ℕ) → ends_in octet (front ++ x ∷ []) ≡ (x == octet)
ends_last octet [] x = refl
ends_last octet (y ∷ []) x = refl
ends_last octet (y ∷ z ∷ f) x = ends_last octet (z ∷ f) x

back_split : (xs : List ℕ) → 1 ≤ length xs → xs ≡ take (length xs - 1) xs ++ get_or xs (length xs - 1) 0 ∷ []
back_split xs le =
    let lt : length xs - 1 < length xs = omega arith in
    let all : length xs ≤ length xs - 1 + 1 = omega arith in
    sym (take-append-drop (length xs - 1) xs) ∙ ap (λ zs. take (length xs - 1) xs ++ zs) (drop_more xs (length xs - 1) 0 lt ∙ ap (λ zs. get_or xs (length xs - 1) 0 ∷ zs) (drop_all (length xs - 1 + 1) xs all))

pub ends_at : (octet : ℕ) (xs : List ℕ) → 1 ≤ length xs → (get_or xs (length xs - 1) 0 == octet) ≡ ends_in octet xs
ends_at octet xs le = sym (ap (ends_in octet) (back_split xs le) ∙ ends_last octet (take (length xs - 1) xs) (get_or xs (length xs - 1) 0))

pub some_end : (octet : ℕ) (xs : List ℕ) → ends_in octet xs ≡ true → 1 ≤ length xs
some_end octet [] e = absurd (false≢true e)
some_end octet (x ∷ xs) e = omega arith

cons_if : (b : Bool) (y : ℕ) (p q : List ℕ) → y ∷ (if b then p else q) ≡ (if b then y ∷ p else y ∷ q)
cons_if true y p q = refl
cons_if false y p q = refl

dot_last : (front : List ℕ) (x : ℕ) → without_dot (front ++ x ∷ []) ≡ (if x == 46 then front else front ++ x ∷ [])
dot_last [] x = refl
dot_last (y ∷ []) x = cons_if (x == 46) y [] (x ∷ [])
dot_last (y ∷ z ∷ f) x = ap (λ zs. y ∷ zs) (dot_last (z ∷ f) x) ∙ cons_if (x == 46) y (z ∷ f) (z ∷ f ++ x ∷ [])

pub dotted : (xs : List ℕ) → ends_in 46 xs ≡ true → take (length xs - 1) xs ≡ without_dot xs
dotted xs e =
    let le = some_end 46 xs e in
    let front = take (length xs - 1) xs in
    let x = get_or xs (length xs - 1) 0 in
    sym (ap without_dot (back_split xs le) ∙ dot_last front x ∙ ap (λ b. if b then front else front ++ x ∷ []) (ends_at 46 xs le ∙ e))

one_kept : (b : Bool) (x : ℕ) → b ≡ false → x ∷ [] ≡ (if b then [] else x ∷ [])
one_kept true x e = absurd (false≢true (sym e))
one_kept false x e = refl

pub undotted : (xs : List ℕ) → ends_in 46 xs ≡ false → xs ≡ without_dot xs
undotted [] e = refl
undotted (x ∷ []) e = one_kept (x == 46) x e
undotted (x ∷ y ∷ ys) e = ap (λ zs. x ∷ zs) (undotted (y ∷ ys) e)

-- what stands before a last octet
pub closed : (octet : ℕ) (xs : List ℕ) → ends_in octet xs ≡ true → xs ≡ take (length xs - 1) xs ++ octet ∷ []
closed octet xs e =
    let le = some_end octet xs e in
    let t : (get_or xs (length xs - 1) 0 == octet) ≡ true = ends_at octet xs le ∙ e in
    back_split xs le ∙ ap (λ z. take (length xs - 1) xs ++ z ∷ []) (eqb-true (get_or xs (length xs - 1) 0) octet t)

pub ends_so : (octet : ℕ) (front : List ℕ) → ends_in octet (front ++ octet ∷ []) ≡ true
ends_so octet front = ends_last octet front octet ∙ eq-eqb octet octet refl

pub before_end : (octet : ℕ) (front xs : List ℕ) → xs ≡ front ++ octet ∷ [] → take (length xs - 1) xs ≡ front
before_end octet front xs e =
    let n = length-append front (octet ∷ []) in
    let m : length xs ≡ length (front ++ octet ∷ []) = ap length e in
    let k : length front ≡ length xs - 1 = omega arith in
    ap (take (length xs - 1)) e ∙ take_at front (octet ∷ []) (length xs - 1) k
