-- What is written of a boolean is read back.
use Rattle.std.proofs.Common.{◌≡◌, ◌∙◌, inl, inr, refl, sym, ap, ℕ, Bool, true, false, not, ◌==◌, List, [], ◌∷◌}
use Rattle.asn1_traits.specs.Booleans.{BooleanMeans, IsStrictBoolean, boolean_octets}

pub boolean_fits : (v : Bool) → Unit {0} → IsStrictBoolean (boolean_octets v) × BooleanMeans (boolean_octets v) v
boolean_fits true form = (inr refl, record { octet = 255; whole = refl; value = refl })
boolean_fits false form = (inl refl, record { octet = 0; whole = refl; value = refl })

-- one octet means one value
pub boolean_once : (content : List ℕ) (v w : Bool) → BooleanMeans content v → BooleanMeans content w → v ≡ w
boolean_once content v w p q =
    let same : p.octet ≡ q.octet = cc (p.whole, q.whole) in
    p.value ∙ ap (λ n. not (n == 0)) same ∙ sym q.value

pub boolean_same : (v w : Bool) → Unit {0} → BooleanMeans (boolean_octets v) w → boolean_octets w ≡ boolean_octets v
boolean_same v w form read = ap boolean_octets (boolean_once (boolean_octets v) w v read (boolean_fits v form).1)
