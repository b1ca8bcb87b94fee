-- Steps over the parts of a tree. A step has an outcome: what it leaves to be read, or the first fault. Each place is counted by the octets
-- that are left of the item from there on.
use Rattle.std.specs.Prelude.{◌≡◌, ℕ, ◌-◌, length, Bool, true, false, Option, Some, None, Result, Ok, Err}
use Rattle.der_tree.specs.Tree.{Tree, node, Trees, none, more, octets}
use Rattle.der_tree.specs.Access.{sequence_at, set_at}
use Rattle.der_tree.specs.View.{views}
use Rattle.cert_faults.specs.declared.places.Field.{Field}
use Rattle.cert_faults.specs.declared.places.Part.{Part}
use Rattle.cert_faults.specs.declared.places.Part.TheVariants.{Whole}
use Rattle.cert_faults.specs.declared.places.Expected.{Expected}
use Rattle.cert_faults.specs.declared.places.Expected.TheVariants.{Sequence, Set, NothingMore}
use Rattle.cert_faults.specs.declared.steps.Place.{Place}
use Rattle.cert_faults.specs.declared.steps.Blame.{Blame}
use Rattle.cert_faults.specs.declared.steps.At.{At}

abbrev pub Outcome : Type 0 → Type 0
Outcome A = Result A Blame

-- the second step goes on after the first
infixl 10 ◌>>=◌
abbrev pub ◌>>=◌ : {A B : Type 0} → Outcome A → (A → Outcome B) → Outcome B
(Ok x) >>= f = f x
(Err b) >>= f = Err b

-- a call's result, seen by a view, is this outcome
abbrev pub Gives : {X Y : Type 0} → (X → Y) → Outcome X → Outcome Y → Type 0
Gives view (Ok x) outcome = outcome ≡ Ok (view x)
Gives view (Err b) outcome = outcome ≡ Err b

-- an element that isn't what is expected
abbrev pub unlike : Place → Expected → ℕ → Blame
unlike place expected left = record { place = place; expected = expected; left = left; is_missing = false }

-- an element that is expected, and the element that holds it ends before
abbrev pub missing : Place → Expected → ℕ → Blame
missing place expected left = record { place = place; expected = expected; left = left; is_missing = true }

abbrev pub whole : Field → Place
whole field = record { field = field; part = Whole }

abbrev pub within : Field → Part → Place
within field part = record { field = field; part = part }

-- the octets left after a header, and after an element
abbrev pub inside : ℕ → Tree → ℕ
inside n (node h s c) = n - (length s - h.size)

abbrev pub left_after : ℕ → Tree → ℕ
left_after n t = n - length (octets t)

-- parts that are still to be read, and the octets that are left from the first of them on
abbrev pub Rest : Type 0
Rest = Trees × ℕ

abbrev pub at_view : At → Rest
at_view a = (views a.parts.now, a.left)

-- what is there, or a fault
abbrev pub there_or : {A : Type 0} → Blame → Option A → Outcome A
there_or b (Some x) = Ok x
there_or b None = Err b

-- that it is there
abbrev pub check : {A : Type 0} → Blame → Option A → Outcome (Unit {0})
check b (Some x) = Ok tt
check b None = Err b

abbrev pub test : Blame → Bool → Outcome (Unit {0})
test b true = Ok tt
test b false = Err b

abbrev pub parts_or : Blame → ℕ → Option Trees → Outcome Rest
parts_or b n (Some ts) = Ok (ts, n)
parts_or b n None = Err b

-- the parts of a SEQUENCE, and of a SET
abbrev pub sequence_or : Place → ℕ → Tree → Outcome Rest
sequence_or place n t = parts_or (unlike place Sequence n) (inside n t) (sequence_at t)

abbrev pub set_or : Place → ℕ → Tree → Outcome Rest
set_or place n t = parts_or (unlike place Set n) (inside n t) (set_at t)

-- the first of the parts, and those after it
abbrev pub first_in : Place → Expected → ℕ → Trees → Outcome (Tree × Rest)
first_in place expected n none = Err (missing place expected n)
first_in place expected n (more t ts) = Ok (t, (ts, left_after n t))

abbrev pub first_or : Place → Expected → Rest → Outcome (Tree × Rest)
first_or place expected r = first_in place expected r.1 r.0

-- no part is left
abbrev pub end_in : Place → ℕ → Trees → Outcome (Unit {0})
end_in place n none = Ok tt
end_in place n (more t ts) = Err (unlike place NothingMore n)

abbrev pub end_or : Place → Rest → Outcome (Unit {0})
end_or place r = end_in place r.1 r.0

-- each of the parts, from the first on
abbrev pub each_in : (ℕ → Tree → Outcome (Unit {0})) → ℕ → Trees → Outcome (Unit {0})
each_in fault n none = Ok tt
each_in fault n (more t ts) = do
  ok ← fault n t
  each_in fault (left_after n t) ts

-- the first of the parts, which has no fault, and then those after it
abbrev pub next_or : (ℕ → Tree → Outcome (Unit {0})) → Place → Expected → Rest → Outcome Rest
next_or fault place expected r = do
  first ← first_or place expected r
  ok ← fault r.1 first.0
  Ok first.1
