-- Parts written one after the other.
use Rattle.std.proofs.Common.{arith, ◌≡◌, ◌∙◌, sym, subst, ap, ℕ, List, ◌∷◌, ◌++◌, flat_map, Option, Result, Ok, Err, IsErrAnd}
use Rattle.asn1_device.specs.declared.fault.DeviceFault.{DeviceFault}
use Rattle.asn1_traits.proofs.Writing.{appends_two, front_first, front_second}
use Rattle.certpath_rebuild.specs.Puts.{Puts}

abbrev pub Answered : Type 0
Answered = Result (Unit {0}) DeviceFault

-- the first part was not written whole
pub stopped : (a b : Option (List ℕ)) (m n : ℕ) (xs ys : List ℕ) (e : DeviceFault) (r : Answered) → IsErrAnd r (λ y. y ≡ e) → Puts a b m n xs (Err e) → Puts a b m n (xs ++ ys) r
stopped a b m n xs ys e (Ok x) is p = absurd is
stopped a b m n xs ys e (Err y) is p = record { ok = tt; err = front_first a b xs ys p.err; failures = p.failures }

-- the first part was written, and then the second, or a front of it
pub one_more : (a b c : Option (List ℕ)) (l m n : ℕ) (xs ys : List ℕ) (r : Answered) → Puts a b l m xs (Ok tt) → Puts b c m n ys r → Puts a c l n (xs ++ ys) r
one_more a b c l m n xs ys (Ok tt) p q = record { ok = appends_two a b c xs ys p.ok q.ok; err = tt; failures = omega (arith, p.failures, q.failures) }
one_more a b c l m n xs ys (Err e) p q = record { ok = tt; err = front_second a b c xs ys p.ok q.err; failures = omega (arith, p.failures, q.failures) }

-- equal octets are written alike
pub same_octets : (a b : Option (List ℕ)) (m n : ℕ) (xs ys : List ℕ) (r : Answered) → xs ≡ ys → Puts a b m n xs r → Puts a b m n ys r
same_octets a b m n xs ys r is p = subst (λ z. Puts a b m n z r) is p

-- the parts before this one were written, and this one was not written whole
pub part_stopped : {A : Type 0} (f : A → List ℕ) (a b c : Option (List ℕ)) (l m n : ℕ) (done : List ℕ) (all rest after : List A) (part : A) (e : DeviceFault) (r : Answered) →
    Puts a b l m done (Ok tt) → done ++ flat_map f rest ≡ flat_map f all → rest ≡ part ∷ after → IsErrAnd r (λ y. y ≡ e) → Puts b c m n (f part) (Err e) → Puts a c l n (flat_map f all) r
part_stopped f a b c l m n done all rest after part e r p whole is refused q =
    same_octets a c l n (done ++ (f part ++ flat_map f after)) (flat_map f all) r (ap (λ z. done ++ flat_map f z) (sym is) ∙ whole)
    (one_more a b c l m n done (f part ++ flat_map f after) r p (stopped b c m n (f part) (flat_map f after) e r refused q))
