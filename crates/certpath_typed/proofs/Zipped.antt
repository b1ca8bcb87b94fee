-- Lists of which one determines the other, each made of what its values show.
use Rattle.std.proofs.Common.{◌≡◌, ◌∙◌, sym, ap, subst, List, [], ◌∷◌, ◌++◌, append-nil, map, length, arith, refl}
use Rattle.std.specs.List.{AllZip}

push_both : {A B : Type 0} (R : A → B → Type 0) (xs : List A) (ys : List B) (x : A) (y : B) → AllZip R xs ys → R x y → AllZip R (xs ++ x ∷ []) (ys ++ y ∷ [])
push_both R [] [] x y all one = (one, tt)
push_both R [] (b ∷ ys) x y all one = absurd all
push_both R (a ∷ xs) [] x y all one = absurd all
push_both R (a ∷ xs) (b ∷ ys) x y all one = (all.0, push_both R xs ys x y all.1 one)

map_push : {A X : Type 0} (f : X → A) (xs : List X) (x : X) → map f (xs ++ x ∷ []) ≡ map f xs ++ f x ∷ []
map_push f [] x = refl
map_push f (a ∷ xs) x = ap (λ z. f a ∷ z) (map_push f xs x)

-- one more at the end of both
pub zip_push : {A B : Type 0} (R : A → B → Type 0) (xs longer : List A) (ys further : List B) (x : A) (y : B) → longer ≡ xs ++ x ∷ [] → further ≡ ys ++ y ∷ [] → AllZip R xs ys → R x y → AllZip R longer further
zip_push R xs longer ys further x y is more all one =
    subst (λ z. AllZip R z further) (sym is) (subst (λ z. AllZip R (xs ++ x ∷ []) z) (sym more) (push_both R xs ys x y all one))

-- what values show of which there is one more
pub shown : {A X : Type 0} (f : X → A) (xs longer : List X) (x : X) → longer ≡ xs ++ x ∷ [] → map f longer ≡ map f xs ++ f x ∷ []
shown f xs longer x is = ap (map f) is ∙ map_push f xs x

-- what determines the values that are left, after what was made determines the whole
abbrev pub TellsRest : {A B X Y : Type 0} → (A → B → Type 0) → (X → A) → (Y → B) → List X → List X → List Y → Type 0
TellsRest {A} {B} R f g whole rest ys = (more : List B) → AllZip R (map f rest) more → AllZip R (map f whole) (map g ys ++ more)

behind : {Y B : Type 0} (g : Y → B) (ys : List Y) (y : Y) (more : List B) → map g ys ++ (g y ∷ more) ≡ map g (ys ++ y ∷ []) ++ more
behind g [] y more = refl
behind g (b ∷ ys) y more = ap (λ z. g b ∷ z) (behind g ys y more)

pub rest_step : {A B X Y : Type 0} (R : A → B → Type 0) (f : X → A) (g : Y → B) (whole rest left : List X) (ys further : List Y) (x : X) (y : Y) → rest ≡ x ∷ left → further ≡ ys ++ y ∷ []
    → TellsRest R f g whole rest ys → R (f x) (g y) → TellsRest R f g whole left further
rest_step R f g whole rest left ys further x y is more before one = λ ts all.
    let next = before (g y ∷ ts) (subst (λ z. AllZip R (map f z) (g y ∷ ts)) (sym is) (one, all)) in
    subst (λ z. AllZip R (map f whole) z) (behind g ys y ts ∙ ap (λ z. map g z ++ ts) (sym more)) next

pub rest_none : {A B X Y : Type 0} (R : A → B → Type 0) (f : X → A) (g : Y → B) (whole rest : List X) (ys : List Y) → length rest ≡ 0 → TellsRest R f g whole rest ys → AllZip R (map f whole) (map g ys)
rest_none R f g whole [] ys none before = subst (λ z. AllZip R (map f whole) z) (append-nil (map g ys)) (before [] tt)
rest_none R f g whole (x ∷ rest) ys none before = absurd (omega (arith, none))
