-- What is written of a boolean is read back.
use Rattle.std.proofs.Common.{◌≡◌, ◌∙◌, inl, inr, refl, sym, ap, ℕ, not, ◌==◌, [], ◌∷◌}
use Rattle.asn1_traits.specs.Booleans.{IsStrictBoolean, boolean_octets}
use Rattle.asn1_traits.specs.BooleanLaws.{boolean_fits}

-- an octet that DER allows is written as it is
strict_octet : (n : ℕ) → IsStrictBoolean (n ∷ []) → boolean_octets (not (n == 0)) ≡ n ∷ []
strict_octet n (inl e) = let z : n ≡ 0 = cc e in rw z refl
strict_octet n (inr e) = let z : n ≡ 255 = cc e in rw z refl

pub octet_fits : (n : ℕ) → IsStrictBoolean (n ∷ []) → IsStrictBoolean (boolean_octets (not (n == 0))) × (boolean_octets (not (n == 0)) ≡ n ∷ [])
octet_fits n form = ((boolean_fits (not (n == 0)) tt).0, strict_octet n form)

pub octet_same : (n m : ℕ) → IsStrictBoolean (n ∷ []) → boolean_octets (not (n == 0)) ≡ m ∷ [] → boolean_octets (not (m == 0)) ≡ boolean_octets (not (n == 0))
octet_same n m form read =
    let same : n ∷ [] ≡ m ∷ [] = sym (strict_octet n form) ∙ read in
    let e : n ≡ m = cc same in
    ap (λ k. boolean_octets (not (k == 0))) (sym e)
