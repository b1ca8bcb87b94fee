-- Lists whose values agree in two things at once agree in each.
use Rattle.std.proofs.Common.{◌≡◌, ◌∙◌, refl, sym, ap, List, [], ◌∷◌, map, Result, Ok, Err, IfOk, Vec, Global}

-- a value's two things
abbrev pub both : {A B C : Type 0} (f : A → B) (g : A → C) → A → B × C
both f g a = (f a, g a)

fronts : {A B C : Type 0} (f : A → B) (g : A → C) (es : List A) → map f es ≡ map (λ (p : B × C). p.0) (map (both f g) es)
fronts f g [] = refl
fronts f g (e ∷ es) = ap (λ z. f e ∷ z) (fronts f g es)

backs : {A B C : Type 0} (f : A → B) (g : A → C) (es : List A) → map g es ≡ map (λ (p : B × C). p.1) (map (both f g) es)
backs f g [] = refl
backs f g (e ∷ es) = ap (λ z. g e ∷ z) (backs f g es)

pub firsts : {A B C E : Type 0} (f : A → B) (g : A → C) (es : List A) (r : Result (Vec A Global) E)
    → IfOk r (λ v. map (both f g) v.items ≡ map (both f g) es) → IfOk r (λ v. map f v.items ≡ map f es)
firsts f g es (Ok v) same = fronts f g v.items ∙ ap (map (λ p. p.0)) same ∙ sym (fronts f g es)
firsts f g es (Err e) same = tt

pub seconds : {A B C E : Type 0} (f : A → B) (g : A → C) (es : List A) (r : Result (Vec A Global) E)
    → IfOk r (λ v. map (both f g) v.items ≡ map (both f g) es) → IfOk r (λ v. map g v.items ≡ map g es)
seconds f g es (Ok v) same = backs f g v.items ∙ ap (map (λ p. p.1)) same ∙ sym (backs f g es)
seconds f g es (Err e) same = tt
