-- Walks without a fault, opened step by step, and closed again from what is read.
use Rattle.std.proofs.Common.{◌≡◌, ◌∙◌, refl, ap, ℕ, nat_lt, Bool, true, false, if◌then◌else◌, List, [], ◌∷◌, Option, Some, None, Ok, Err, option_and_then, subst}
use Rattle.std.proofs.lemmas.Option.{option_and_then_some}
use Rattle.asn1_core.specs.Elements.{Element}
use Rattle.der_tree.specs.Tree.{Tree, Trees, none, more}
use Rattle.der_tree.specs.Access.{first_at, end_at, element_at}
use Rattle.der_tree.specs.Table.{is_bit_string}
use Rattle.cert_model.specs.Fields.{Bits}
use Rattle.cert_model.specs.Reads.{next_at, is_tagged, tagged_at}
use Rattle.cert_model.specs.Assembly.{id_in, bits_in, is_there, implies}
use Rattle.cert_faults.specs.declared.places.Expected.{Expected}
use Rattle.cert_faults.specs.declared.places.Expected.TheVariants as wants
use Rattle.cert_faults.specs.declared.steps.Place.{Place}
use Rattle.cert_faults.specs.declared.steps.Blame.{Blame}
use Rattle.cert_faults.specs.Steps.{Outcome, ◌>>=◌, unlike, inside, left_after, Rest, there_or, check, test, parts_or, first_in, end_in, next_or}
use Rattle.cert_faults.specs.Items.{tagged_in, id_of}
use Rattle.cert_faults.proofs.Agreeing.{Agrees, no_fault, is_read}

pub the_ok : {A : Type 0} (x y : A) → ◌≡◌ {A = Outcome A} (Ok x) (Ok y) → x ≡ y
the_ok x y e = cc

pub outcome_then : {A B P : Type 0} (r : Outcome A) (f : A → Outcome B) (y : B) → (r >>= f) ≡ Ok y → ((x : A) → r ≡ Ok x → f x ≡ Ok y → P) → P
outcome_then (Ok x) f y e k = k x refl e
outcome_then (Err b) f y e k = absurd cc

pub no_ok : {A P : Type 0} (r : Outcome A) (x : A) (b : Blame) → r ≡ Ok x → r ≡ Err b → P
no_ok r x b p q = absurd cc

-- the parts of a sequence

pub parts_read : (b : Blame) (n : ℕ) (o : Option Trees) (r : Rest) → parts_or b n o ≡ Ok r → (o ≡ Some r.0) × (n ≡ r.1)
parts_read b n (Some ts) r e = let same = the_ok (ts, n) r e in (ap (λ (z : Rest). Some z.0) same, ap (λ (z : Rest). z.1) same)
parts_read b n None r e = absurd cc

-- the first part

pub first_read : (place : Place) (expected : Expected) (n : ℕ) (ts : Trees) (m : Tree × Rest) → first_in place expected n ts ≡ Ok m → (first_at ts ≡ Some (m.0, m.1.0)) × (ts ≡ more m.0 m.1.0)
first_read place expected n none m e = absurd cc
first_read place expected n (more t ts) m e =
    let same = the_ok (t, (ts, left_after n t)) m e in
    (ap (λ (z : Tree × Rest). Some (z.0, z.1.0)) same, ap (λ (z : Tree × Rest). more z.0 z.1.0) same)

pub first_is_ok : (place : Place) (expected : Expected) (n : ℕ) (ts : Trees) (m : Tree × Trees) → first_at ts ≡ Some m → first_in place expected n ts ≡ Ok (m.0, (m.1, left_after n m.0))
first_is_ok place expected n none m e = absurd cc
first_is_ok place expected n (more t ts) m e =
    let same : ◌≡◌ {A = Tree × Trees} (t, ts) m = cc in
    ap (λ (z : Tree × Trees). Ok (z.0, (z.1, left_after n z.0))) same

-- the end

pub end_read : (place : Place) (n : ℕ) (ts : Trees) (u : Unit {0}) → end_in place n ts ≡ Ok u → end_at ts ≡ Some tt
end_read place n none u e = refl
end_read place n (more t ts) u e = absurd cc

pub end_ok : (place : Place) (n : ℕ) (ts : Trees) (u : Unit {0}) → end_at ts ≡ Some u → end_in place n ts ≡ Ok tt
end_ok place n none u e = refl
end_ok place n (more t ts) u e = absurd cc

-- a part that is read, and those after it

abbrev pub Laws : {A : Type 0} → (ℕ → Tree → Outcome (Unit {0})) → (Tree → Option A) → Type 0
Laws fault read = (n : ℕ) (t : Tree) → Agrees (fault n t) (read t)

pub next_read : {A : Type 0} (fault : ℕ → Tree → Outcome (Unit {0})) (read : Tree → Option A) → Laws fault read → (place : Place) (expected : Expected) (n : ℕ) (ts : Trees) (s : Rest) →
    next_or fault place expected (ts, n) ≡ Ok s → (a : A) × (next_at read ts ≡ Some (a, s.0))
next_read fault read laws place expected n none s e = absurd cc
next_read {A} fault read laws place expected n (more t ts) s e =
    outcome_then (fault n t) (λ ok. Ok (ts, left_after n t)) s e (λ u e1 r1.
    let a = is_read (fault n t) (read t) u (laws n t) e1 in
    let same = the_ok (ts, left_after n t) s r1 in
    (a.0, ap (option_and_then (λ (v : A). Some (v, ts))) a.1 ∙ ap (λ (z : Rest). Some (a.0, z.0)) same))

pub next_ok : {A : Type 0} (fault : ℕ → Tree → Outcome (Unit {0})) (read : Tree → Option A) → Laws fault read → (place : Place) (expected : Expected) (n : ℕ) (ts : Trees) (m : A × Trees) →
    next_at read ts ≡ Some m → (s : Rest) × (next_or fault place expected (ts, n) ≡ Ok s) × (s.0 ≡ m.1)
next_ok fault read laws place expected n none m e = absurd cc
next_ok {A} fault read laws place expected n (more t ts) m e =
    option_and_then_some _ (read t) m e (λ value e1 r1.
    let ok = no_fault (fault n t) (read t) value (laws n t) e1 in
    let same : ◌≡◌ {A = A × Trees} (value, ts) m = cc in
    ((ts, left_after n t), rw ok.1 refl, ap (λ (z : A × Trees). z.1) same))

-- tagged elements

tagged_by : (b : Bool) (e : Element) (i n j : ℕ) (t : Tree) (ts : Trees) →
    let mine : Option Element × ℕ × Rest = if b then (Some e, i, (ts, j)) else (None, n, (more t ts, n)) in
    let theirs : Option Element × Trees = if b then (Some e, ts) else (None, more t ts) in
    (mine.0 ≡ theirs.0) × (mine.2.0 ≡ theirs.1)
tagged_by true e i n j t ts = (refl, refl)
tagged_by false e i n j t ts = (refl, refl)

pub tagged_same : (tag n : ℕ) (ts : Trees) → ((tagged_in tag n ts).0 ≡ (tagged_at tag ts).0) × ((tagged_in tag n ts).2.0 ≡ (tagged_at tag ts).1)
unfolding tagged_at
tagged_same tag n none = (refl, refl)
tagged_same tag n (more t ts) = tagged_by (is_tagged tag (element_at t)) (element_at t) (inside n t) n (left_after n t) t ts

pub there_read : {A : Type 0} (b : Blame) (o : Option A) (x : A) → there_or b o ≡ Ok x → o ≡ Some x
there_read b (Some a) x e = ap Some (the_ok a x e)
there_read b None x e = absurd cc

pub check_read : {A : Type 0} (b : Blame) (o : Option A) (u : Unit {0}) → check b o ≡ Ok u → (a : A) × (o ≡ Some a)
check_read b (Some a) u e = (a, refl)
check_read b None u e = absurd cc

pub test_read : (b : Blame) (c : Bool) (u : Unit {0}) → test b c ≡ Ok u → c ≡ true
test_read b true u e = refl
test_read b false u e = absurd cc

-- unique identifiers

implies_true : (b : Bool) → implies b true ≡ true
implies_true true = refl
implies_true false = refl

pub id_read : (place : Place) (version n : ℕ) (o : Option Element) (rest s : Rest) → id_of place version n o rest ≡ Ok s →
    (j : Option Bits) × (id_in o ≡ Some j) × (implies (is_there j) (nat_lt 0 version) ≡ true) × (rest ≡ s)
id_read place version n None rest s e = (None, refl, refl, the_ok rest s e)
id_read place version n (Some x) rest s e =
    outcome_then (test (unlike place wants.LaterVersion n) (nat_lt 0 version)) _ s e (λ u e1 r1.
    outcome_then (check (unlike place wants.ImplicitBits n) (id_in (Some x))) _ s r1 (λ v e2 r2.
    let later = test_read (unlike place wants.LaterVersion n) (nat_lt 0 version) u e1 in
    let j = check_read (unlike place wants.ImplicitBits n) (id_in (Some x)) v e2 in
    (j.0, j.1, rw later (implies_true (is_there j.0)), the_ok rest s r2)))

bits_pick : (b : Bool) (x : Bits) → ◌≡◌ {A = Option (Option Bits)} (if b then Some (Some x) else None) (Some None) → ⊥
bits_pick true x e = cc
bits_pick false x e = cc

bits_none : (s : List ℕ) → bits_in s ≡ Some None → ⊥
bits_none [] e = cc
bits_none (unused ∷ s) e = bits_pick (is_bit_string (unused ∷ s)) (record { unused = unused; octets = s }) e

bits_there : (s : List ℕ) (j : Option Bits) → bits_in s ≡ Some j → is_there j ≡ true
bits_there s None e = absurd (bits_none s e)
bits_there s (Some b) e = refl

id_pick : (b : Bool) (s : List ℕ) (j : Option Bits) → (if b then None else bits_in s) ≡ Some j → is_there j ≡ true
id_pick true s j e = absurd cc
id_pick false s j e = bits_there s j e

pub id_ok : (place : Place) (version n : ℕ) (o : Option Element) (rest : Rest) (j : Option Bits) → id_in o ≡ Some j → implies (is_there j) (nat_lt 0 version) ≡ true → id_of place version n o rest ≡ Ok rest
id_ok place version n None rest j e p = refl
id_ok place version n (Some x) rest j e p =
    let there = id_pick x.constructed x.content j e in
    let later : nat_lt 0 version ≡ true = subst (λ b. implies b (nat_lt 0 version) ≡ true) there p in
    rw (later, e) refl
