-- Elements of a list that all, or some, have a property.
use Rattle.std.proofs.Common.{◌≡◌, ℕ, zero, suc, ◌<◌, Bool, true, false, MatchBool, List, [], ◌∷◌, length, get_or, arith, refl, subst, sym}
use Rattle.std.specs.Prelude.{◌↔◌, All, Any}
use Rattle.std.specs.List.{HoldsAt, AllWithin}
use Rattle.std.proofs.lemmas.Bool.{false≢true}
use Rattle.std.proofs.lemmas.List.{get_or_default}

-- the element at a place
pub element_at : {X : Type 0} (xs : List X) (k : ℕ) → k < length xs → (x : X) × (get_or xs k x ≡ x)
element_at [] k within = absurd (omega arith)
element_at (x ∷ xs) zero within = (x, refl)
element_at (x ∷ xs) (suc k) within = element_at xs k (omega arith)

pub any_at : {X : Type 0} (P : X → Type 0) (xs : List X) (i : ℕ) (d : X) → i < length xs → P (get_or xs i d) → Any P xs
any_at P xs i d within p = (i, get_or xs i d, within, get_or_default xs i (get_or xs i d) d within, p)

-- what holds of each element holds of one that has another property
pub meet : {X : Type 0} (P Q : X → Type 0) (xs : List X) → All P xs → Any Q xs → (x : X) × P x × Q x
meet P Q xs h e = (e.1, subst P e.3 (h e.0 e.1 e.2), e.4)

-- what `any` returns
pub any_iff : {X : Type 0} (P : X → Type 0) (r : Bool) (xs : List X) → MatchBool r ((k : ℕ) × (k < length xs) × HoldsAt P xs k) (AllWithin (λ x. P x → ⊥) xs 0 (length xs)) → (r ≡ true) ↔ Any P xs
any_iff P true xs h = (λ e. let x = element_at xs h.0 h.1 in (h.0, x.0, h.1, x.1, subst P x.1 (h.2 x.0)), λ a. refl)
any_iff P false xs h = (λ e. absurd (false≢true e), λ a. absurd (h a.0 a.1 (omega arith) a.2 (subst P (sym a.3) a.4)))

pub both : {P Q R : Type 0} → (P ↔ Q) → (Q ↔ R) → P ↔ R
both h k = (λ p. k.0 (h.0 p), λ r. h.1 (k.1 r))
