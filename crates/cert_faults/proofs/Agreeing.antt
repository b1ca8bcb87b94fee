-- A walk that names faults has none exactly if a read of `cert_model` has a value: steps and
-- sequences of steps.
use Rattle.std.proofs.Common.{◌≡◌, refl, ℕ, Option, Some, None, Ok, Err, option_and_then}
use Rattle.der_tree.specs.Tree.{Tree, Trees, none, more}
use Rattle.der_tree.specs.Access.{first_at, end_at}
use Rattle.cert_model.specs.Reads.{list_at, next_at}
use Rattle.cert_faults.specs.declared.places.Expected.{Expected}
use Rattle.cert_faults.specs.declared.steps.Place.{Place}
use Rattle.cert_faults.specs.declared.steps.Blame.{Blame}
use Rattle.cert_faults.specs.Steps.{Outcome, ◌>>=◌, left_after, Rest, check, parts_or, first_in, end_in, next_or, each_in}

-- a step has no fault exactly if a value is read
abbrev pub Agrees : {A C : Type 0} → Outcome A → Option C → Type 0
Agrees (Ok x) (Some a) = Unit {0}
Agrees (Ok x) None = ⊥
Agrees (Err b) (Some a) = ⊥
Agrees (Err b) None = Unit {0}

-- what both directions are for

pub no_fault : {A C : Type 0} (r : Outcome A) (o : Option C) (a : C) → Agrees r o → o ≡ Some a → (x : A) × (r ≡ Ok x)
no_fault (Ok x) (Some a) c p e = (x, refl)
no_fault (Ok x) None c p e = absurd p
no_fault (Err b) (Some a) c p e = absurd p
no_fault (Err b) None c p e = cc

pub is_read : {A C : Type 0} (r : Outcome A) (o : Option C) (x : A) → Agrees r o → r ≡ Ok x → (a : C) × (o ≡ Some a)
is_read (Ok x) (Some a) y p e = (a, refl)
is_read (Ok x) None y p e = absurd p
is_read (Err b) (Some a) y p e = absurd p
is_read (Err b) None y p e = cc

-- steps

pub check_agrees : {C : Type 0} (b : Blame) (o : Option C) → Agrees (check b o) o
check_agrees b (Some a) = tt
check_agrees b None = tt

pub end_agrees : (place : Place) (n : ℕ) (ts : Trees) → Agrees (end_in place n ts) (end_at ts)
end_agrees place n none = tt
end_agrees place n (more t ts) = tt

pub then_agrees : {A B C D : Type 0} (r : Outcome A) (o : Option C) (f : A → Outcome B) (g : C → Option D) → Agrees r o → ((x : A) (a : C) → Agrees (f x) (g a)) → Agrees (r >>= f) (option_and_then g o)
then_agrees (Ok x) (Some a) f g p h = h x a
then_agrees (Ok x) None f g p h = absurd p
then_agrees (Err b) (Some a) f g p h = absurd p
then_agrees (Err b) None f g p h = tt

-- a value is made of what is read
pub made_agrees : {A C D : Type 0} (r : Outcome A) (o : Option C) (h : C → D) → Agrees r o → Agrees r (option_and_then (λ a. Some (h a)) o)
made_agrees (Ok x) (Some a) h p = tt
made_agrees (Ok x) None h p = absurd p
made_agrees (Err b) (Some a) h p = absurd p
made_agrees (Err b) None h p = tt

-- the parts of a sequence or a set, and then what is read of them
pub parts_agree : {B D : Type 0} (b : Blame) (n : ℕ) (o : Option Trees) (f : Rest → Outcome B) (g : Trees → Option D) → ((ts : Trees) → Agrees (f (ts, n)) (g ts)) → Agrees (parts_or b n o >>= f) (option_and_then g o)
parts_agree b n (Some ts) f g h = h ts
parts_agree b n None f g h = tt

-- the first part
pub first_agrees : {B D : Type 0} (place : Place) (expected : Expected) (n : ℕ) (ts : Trees) (f : Tree × Rest → Outcome B) (g : Tree × Trees → Option D) →
    ((t : Tree) (us : Trees) → Agrees (f (t, (us, left_after n t))) (g (t, us))) → Agrees (first_in place expected n ts >>= f) (option_and_then g (first_at ts))
first_agrees place expected n none f g h = tt
first_agrees place expected n (more t ts) f g h = h t ts

-- a part that is read, and then those after it
read_agrees : {A B D : Type 0} (r : Outcome (Unit {0})) (o : Option A) (s : Rest) (f : Rest → Outcome B) (g : A → Option D) → Agrees r o → ((a : A) → Agrees (f s) (g a)) →
    Agrees ((r >>= (λ ok. Ok s)) >>= f) (option_and_then g o)
read_agrees (Ok x) (Some a) s f g p h = h a
read_agrees (Ok x) None s f g p h = absurd p
read_agrees (Err b) (Some a) s f g p h = absurd p
read_agrees (Err b) None s f g p h = tt

pub part_agrees : {A B D : Type 0} (fault : ℕ → Tree → Outcome (Unit {0})) (read : Tree → Option A) → ((n : ℕ) (t : Tree) → Agrees (fault n t) (read t)) → (place : Place) (expected : Expected) (n : ℕ) (ts : Trees)
    (f : Rest → Outcome B) (g : Tree × Trees → A → Option D) → ((t : Tree) (us : Trees) (a : A) → Agrees (f (us, left_after n t)) (g (t, us) a)) →
    Agrees (next_or fault place expected (ts, n) >>= f) (option_and_then (λ first. option_and_then (g first) (read first.0)) (first_at ts))
part_agrees fault read laws place expected n none f g h = tt
part_agrees fault read laws place expected n (more t ts) f g h = read_agrees (fault n t) (read t) (ts, left_after n t) f (g (t, ts)) (laws n t) (h t ts)

next_read_agrees : {A B D : Type 0} (r : Outcome (Unit {0})) (o : Option A) (s : Rest) (f : Rest → Outcome B) (g : A × Trees → Option D) → Agrees r o → ((a : A) → Agrees (f s) (g (a, s.0))) →
    Agrees ((r >>= (λ ok. Ok s)) >>= f) (option_and_then g (option_and_then (λ (a : A). Some (a, s.0)) o))
next_read_agrees (Ok x) (Some a) s f g p h = h a
next_read_agrees (Ok x) None s f g p h = absurd p
next_read_agrees (Err b) (Some a) s f g p h = absurd p
next_read_agrees (Err b) None s f g p h = tt

pub next_agrees : {A B D : Type 0} (fault : ℕ → Tree → Outcome (Unit {0})) (read : Tree → Option A) → ((n : ℕ) (t : Tree) → Agrees (fault n t) (read t)) → (place : Place) (expected : Expected) (n : ℕ) (ts : Trees)
    (f : Rest → Outcome B) (g : A × Trees → Option D) → ((s : Rest) (a : A) → Agrees (f s) (g (a, s.0))) →
    Agrees (next_or fault place expected (ts, n) >>= f) (option_and_then g (next_at read ts))
next_agrees fault read laws place expected n none f g h = tt
next_agrees fault read laws place expected n (more t ts) f g h = next_read_agrees (fault n t) (read t) (ts, left_after n t) f g (laws n t) (h (ts, left_after n t))

-- each of some parts
pub each_agrees : {A : Type 0} (fault : ℕ → Tree → Outcome (Unit {0})) (read : Tree → Option A) → ((n : ℕ) (t : Tree) → Agrees (fault n t) (read t)) → (n : ℕ) (ts : Trees) → Agrees (each_in fault n ts) (list_at read ts)
each_agrees fault read laws n none = tt
each_agrees fault read laws n (more t ts) = then_agrees (fault n t) (read t) _ _ (laws n t) (λ ok a. made_agrees (each_in fault (left_after n t) ts) (list_at read ts) _ (each_agrees fault read laws (left_after n t) ts))
