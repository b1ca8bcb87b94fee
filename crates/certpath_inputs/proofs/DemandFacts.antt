-- What holds if nothing is demanded, and if something is.
use Rattle.std.proofs.Common.{◌≡◌, ℕ, List, Option, Some, None, Result, Ok, Err, IfOk, true, false, subst}
use Rattle.cert_serving.specs.cert_judge.specs.Vouching.{Vouching}
use Rattle.cert_serving.specs.declared.permits.Permits.{Permits}
use Rattle.cert_vouchers.specs.declared.vouchers.Vouchers.{Vouchers}
use Rattle.certpath_inputs.specs.Demands.{IfNeither, VouchesWhere, is_neither}

pub on_neither : {A B : Type 0} (a : Option A) (b : Option B) (P Q : Type 0) → is_neither a b ≡ true → P → IfNeither a b P Q
on_neither None None P Q e p = p
on_neither None (Some b) P Q e p = absurd (cc e)
on_neither (Some a) b P Q e p = absurd (cc e)

pub on_some : {A B : Type 0} (a : Option A) (b : Option B) (P Q : Type 0) → is_neither a b ≡ false → Q → IfNeither a b P Q
on_some None None P Q e q = absurd (cc e)
on_some None (Some b) P Q e q = q
on_some (Some a) b P Q e q = q

-- what follows from each of the two
pub shown_by : {A B : Type 0} {P Q P' Q' : Type 0} (a : Option A) (b : Option B) → IfNeither a b P Q → (P → P') → (Q → Q') → IfNeither a b P' Q'
shown_by None None h f g = f h
shown_by None (Some b) h f g = g h
shown_by (Some a) b h f g = g h

-- what follows of an answer
pub of_ok : {X E : Type 0} (P Q : X → Type 0) → ((x : X) → P x → Q x) → (r : Result X E) → IfOk r P → IfOk r Q
of_ok P Q f (Ok x) h = f x h
of_ok P Q f (Err e) h = tt

pub both_ok : {X E : Type 0} (P Q : X → Type 0) → (r : Result X E) → IfOk r P → IfOk r Q → IfOk r (λ x. P x × Q x)
both_ok P Q (Ok x) p q = (p, q)
both_ok P Q (Err e) p q = tt

-- what holds by pairs and permits holds by those that are equal to them
pub by_equal : (P : Vouching → Type 0) (v w : Vouchers) (p q : Permits) → v ≡ w → p ≡ q → P (VouchesWhere p v) → P (VouchesWhere q w)
by_equal P v w p q e f h = subst (λ x. P (VouchesWhere x w)) f (subst (λ y. P (VouchesWhere p y)) e h)
