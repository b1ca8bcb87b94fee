-- Up to three elements by themselves, then others.
use Rattle.std.proofs.Common.{◌≡◌, refl, sym, subst, ap, ◌∙◌, List, [], ◌∷◌, Option, Some, None, drop, is_some, true, false}
use Rattle.asn1_any.specs.declared.cut.Element.{Element}
use Rattle.x509_core.specs.declared.ahead.Ahead.{Ahead}
use Rattle.x509_core.specs.Parts.{in_order, ahead_of}

-- the first of them is the first of the three, if that is there
pub some_front : (e : Element) (second third : Option Element) (others : List Element) → (rest : List Element) × (in_order (Some e) second third others ≡ e ∷ rest)
some_front e None third others = (others, refl)
some_front e (Some y) None others = (y ∷ others, refl)
some_front e (Some y) (Some z) others = (y ∷ z ∷ others, refl)

-- two lists with one first element
tail_or : List Element → List Element → List Element
tail_or none [] = none
tail_or none (x ∷ xs) = xs

pub same_rest : (whole rest : List Element) (e x : Element) (other : List Element) → whole ≡ e ∷ rest → whole ≡ x ∷ other → other ≡ rest
unfolding tail_or
same_rest whole rest e x other here there = ap (tail_or rest) (sym there ∙ here)

-- the list before the front is passed over
pub before_front : (old new rest : List Element) (e : Element) → old ≡ e ∷ rest → new ≡ rest → old ≡ e ∷ new
before_front old new rest e here is = subst (λ r. old ≡ e ∷ r) (sym is) here

-- the others alone, if none is by itself
pub others_only : (a : Ahead) → a.front ≡ None → ahead_of a ≡ drop a.at a.others.items
unfolding ahead_of
others_only a none = rw none refl

-- no element
pub none_there : (o : Option Element) → is_some o ≡ false → o ≡ None
none_there None absent = refl
none_there (Some e) absent = let bad : true ≡ false = absent in cc
