-- Exactly what meets the demands is permitted, and exactly the purpose is processed.
use Rattle.std.proofs.Common.{◌≡◌, subst, refl, zero, suc, ℕ, List, [], ◌∷◌, arith, inl, inr}
use Rattle.std.specs.Prelude.{Contains}
use Rattle.cert_serving.specs.Demanding.{IsPermitted, PermitsOf, ProcessesFor}
use Rattle.cert_serving.specs.Refusing.{IsIn, are_permitted, are_processed}
use Rattle.laws_items.specs.Classes.{null_octets}
use Rattle.laws_items.proofs.OfClasses.{null_is_other}
use Rattle.laws_judge.specs.Serving.{allowing, servers}

none_refused : (octets : List ℕ) → IsIn allowing.now.refused octets → ⊥
none_refused octets h = cc

-- what is no certificate is permitted
null_permitted : IsPermitted servers null_octets
null_permitted c is = absurd (null_is_other.0 c is)

only_null : (octets : List ℕ) → Contains (null_octets ∷ []) octets → null_octets ≡ octets
only_null octets (zero, lt, is) = is
only_null octets (suc k, lt, is) = absurd (omega (arith, lt))

pub permits : PermitsOf servers (null_octets ∷ []) (are_permitted allowing.now)
permits octets = (λ p at. subst (IsPermitted servers) (only_null octets at) null_permitted, λ h. none_refused octets)

pub processes : ProcessesFor servers (are_processed allowing.now)
processes octets identifier = (
  λ p. elim p [ inl h ↦ inl (refl, h.1) | inr h ↦ absurd h.0 ],
  λ p. elim p [ inl h ↦ inl (refl, h.1) | inr h ↦ let none = h.0 in cc ],
)
