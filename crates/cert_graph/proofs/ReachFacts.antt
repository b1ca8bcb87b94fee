-- What the order on reaches means for the counts that they take.
use Rattle.std.proofs.Common.{◌≡◌, ℕ, zero, suc, ◌+◌, ◌≤◌, Bool, true, false, not, cond, arith, ap, subst, refl, inl, inr}
use Rattle.std.proofs.lemmas.Bool.{cases_lt}
use Rattle.cert_graph.specs.declared.reach.Reach.{Reach}
use Rattle.cert_graph.specs.declared.reach.Reach.TheVariants.{No, UpTo, Any}
use Rattle.cert_graph.specs.Reach.{Takes, IsAtMost, lesser, less_one}

pub more_takes : (r s : Reach) (c : ℕ) → IsAtMost r s → Takes r c → Takes s c
more_takes No s c h t = absurd t
more_takes (UpTo m) No c h t = absurd h
more_takes (UpTo m) (UpTo n) c h t = omega arith
more_takes (UpTo m) Any c h t = tt
more_takes Any No c h t = absurd h
more_takes Any (UpTo n) c h t = absurd h
more_takes Any Any c h t = tt

pub beyond_takes : (r s : Reach) (c : ℕ) → (IsAtMost r s → ⊥) → Takes s c → Takes r c
beyond_takes No s c h t = absurd (h tt)
beyond_takes (UpTo m) No c h t = absurd t
beyond_takes (UpTo m) (UpTo n) c h t = elim (cases_lt m c) [
  | inl below ↦ absurd (h (omega arith))
  | inr above ↦ omega arith
]
beyond_takes (UpTo m) Any c h t = absurd (h tt)
beyond_takes Any s c h t = tt

pub fewer_taken : (r : Reach) (c d : ℕ) → c ≤ d → Takes r d → Takes r c
fewer_taken No c d h t = t
fewer_taken (UpTo m) c d h t = omega arith
fewer_taken Any c d h t = tt

pub lesser_takes : (r s : Reach) (c : ℕ) → Takes r c → Takes s c → Takes (lesser r s) c
lesser_takes No s c t u = t
lesser_takes (UpTo m) No c t u = u
lesser_takes (UpTo m) (UpTo n) c t u = omega arith
lesser_takes (UpTo m) Any c t u = t
lesser_takes Any s c t u = u

pub less_one_takes : (r : Reach) (c : ℕ) → Takes r (c + 1) → Takes (less_one r) c
less_one_takes No c t = t
less_one_takes (UpTo zero) c t = absurd (omega arith)
less_one_takes (UpTo (suc n)) c t = omega arith
less_one_takes Any c t = tt

pub passed_takes : (b : Bool) (r : Reach) (c : ℕ) → Takes r (c + cond (not b) 1 0) → Takes (cond b r (less_one r)) c
passed_takes true r c t = fewer_taken r c (c + 0) (omega arith) t
passed_takes false r c t = less_one_takes r c t

pub none_taken : (r : Reach) (c : ℕ) → r ≡ No → Takes r c → ⊥
none_taken r c e t = subst (λ (x : Reach). Takes x c) e t

-- what a passed reach takes, both ways
pub less_one_back : (r : Reach) (c : ℕ) → Takes (less_one r) c → Takes r (c + 1)
less_one_back No c t = t
less_one_back (UpTo zero) c t = absurd t
less_one_back (UpTo (suc n)) c t = omega arith
less_one_back Any c t = tt

pub passed_back : (b : Bool) (r : Reach) (c : ℕ) → Takes (cond b r (less_one r)) c → Takes r (c + cond (not b) 1 0)
passed_back true r c t = fewer_taken r (c + 0) c (omega arith) t
passed_back false r c t = less_one_back r c t

pub at_most_from_takes : (r s : Reach) → ((c : ℕ) → Takes r c → Takes s c) → IsAtMost r s
at_most_from_takes No s f = tt
at_most_from_takes (UpTo m) No f = f m (omega arith)
at_most_from_takes (UpTo m) (UpTo n) f = f m (omega arith)
at_most_from_takes (UpTo m) Any f = tt
at_most_from_takes Any No f = f 0 tt
at_most_from_takes Any (UpTo n) f = let h : n + 1 ≤ n = f (n + 1) tt in absurd (omega arith)
at_most_from_takes Any Any f = tt

pub lesser_left : (r s : Reach) (c : ℕ) → Takes (lesser r s) c → Takes r c
lesser_left No s c t = t
lesser_left (UpTo m) No c t = absurd t
lesser_left (UpTo m) (UpTo n) c t = omega arith
lesser_left (UpTo m) Any c t = t
lesser_left Any s c t = tt

pub lesser_right : (r s : Reach) (c : ℕ) → Takes (lesser r s) c → Takes s c
lesser_right No s c t = absurd t
lesser_right (UpTo m) No c t = t
lesser_right (UpTo m) (UpTo n) c t = omega arith
lesser_right (UpTo m) Any c t = tt
lesser_right Any s c t = t

pub at_most_same : (r s : Reach) → IsAtMost r s → IsAtMost s r → r ≡ s
at_most_same No No h k = refl
at_most_same No (UpTo n) h k = absurd k
at_most_same No Any h k = absurd k
at_most_same (UpTo m) No h k = absurd h
at_most_same (UpTo m) (UpTo n) h k = let e : m ≡ n = omega arith in ap (λ (x : ℕ). UpTo x) e
at_most_same (UpTo m) Any h k = absurd k
at_most_same Any No h k = absurd h
at_most_same Any (UpTo n) h k = absurd h
at_most_same Any Any h k = refl

pub at_most_self : (r : Reach) → IsAtMost r r
at_most_self r = at_most_from_takes r r (λ c t. t)

-- a reach that does not take 0 takes nothing
pub no_takes : (r : Reach) → (Takes r 0 → ⊥) → r ≡ No
no_takes No h = refl
no_takes (UpTo n) h = absurd (h (omega arith))
no_takes Any h = absurd (h tt)
