-- The element at a position, and the certificate that an item is.
use Rattle.std.proofs.Common.{◌≡◌, ◌∙◌, ap, sym, ℕ, ◌<◌, List, [], ◌∷◌, length, arith, get_or}
use Rattle.std.proofs.Props.{props}
use Rattle.std.proofs.lemmas.List.{get_or_default}
use Rattle.cert_model.specs.Fields.{Certificate}
use Rattle.cert_model.specs.Class.{Class, certificate, list, other}

pub one_name : (a s : List ℕ) → IsProp (a ≡ s)
one_name a s = hlevel props

-- the element at a position
pub element : {X : Type 0} (xs : List X) (v : ℕ) → v < length xs → (x : X) × (x ≡ get_or xs v x)
element [] v lt = absurd (omega arith)
element (z ∷ zs) v lt = (get_or (z ∷ zs) v z, get_or_default (z ∷ zs) v z (get_or (z ∷ zs) v z) lt)

abbrev certificate_in : Certificate → Class → Certificate
certificate_in c (certificate d) = d
certificate_in c (list l) = c
certificate_in c other = c

pub one_certificate : (k : Class) (c d : Certificate) → k ≡ certificate c → k ≡ certificate d → c ≡ d
one_certificate k c d p q = ap (certificate_in c) (sym p ∙ q)
