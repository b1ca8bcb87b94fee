-- Two parts written one after the other.
use Rattle.std.proofs.Common.{arith, ◌≡◌, ◌∙◌, ap, refl, sym, subst, ℕ, ◌+◌, ◌<◌, ◌≤◌, ◌^◌, List, [], ◌++◌, length, Option, Some, None, Result, Ok, Err, IfOk, IfErr, append_assoc, length-append}
use Rattle.std.proofs.lemmas.List.{append-nil}
use Rattle.std.specs.Io.KnownBytes.{Appends}
use Rattle.asn1_device.specs.Counts.{AppendsFront}
use Rattle.asn1_core.specs.declared.serialize.SerializeError.{SerializeError}
use Rattle.asn1_core.specs.declared.serialize.SerializeError.TheVariants as writes
use Rattle.asn1_core.specs.Elements.{Element}
use Rattle.asn1_traits.specs.Writes.{Writes, Stops, IsLong, written, header_of, content_of}

pub appends_two : (a b c : Option (List ℕ)) (xs ys : List ℕ) → Appends a b xs → Appends b c ys → Appends a c (xs ++ ys)
appends_two None b c xs ys p q = tt
appends_two (Some x) None c xs ys p q = absurd p
appends_two (Some x) (Some y) None xs ys p q = absurd q
appends_two (Some x) (Some y) (Some z) xs ys p q = q ∙ ap (λ w. w ++ ys) p ∙ append_assoc x xs ys

pub appends_none : (a : Option (List ℕ)) → Appends a a []
appends_none None = tt
appends_none (Some x) = sym (append-nil x)

-- a front of the first part is one of both
pub front_first : (a b : Option (List ℕ)) (xs ys : List ℕ) → AppendsFront a b xs → AppendsFront a b (xs ++ ys)
front_first a b xs ys f = record { front = f.front; left = f.left ++ ys; parts = ap (λ z. z ++ ys) f.parts ∙ append_assoc f.front f.left ys; wrote = f.wrote }

-- the first part and a front of the second are a front of both
pub front_second : (a b c : Option (List ℕ)) (xs ys : List ℕ) → Appends a b xs → AppendsFront b c ys → AppendsFront a c (xs ++ ys)
front_second a b c xs ys p f = record { front = xs ++ f.front; left = f.left; parts = ap (λ z. xs ++ z) f.parts ∙ sym (append_assoc xs f.front f.left); wrote = appends_two a b c xs f.front p f.wrote }

pub front_all : (a b : Option (List ℕ)) (xs : List ℕ) → Appends a b xs → AppendsFront a b xs
front_all a b xs p = record { front = xs; left = []; parts = sym (append-nil xs); wrote = p }

pub front_none : (a : Option (List ℕ)) (xs : List ℕ) → AppendsFront a a xs
front_none a xs = record { front = []; left = xs; parts = refl; wrote = appends_none a }

-- a reason at a part is one at the whole
pub stops_too : (m n : ℕ) (long grows wrong long' grows' wrong' : Type 0) (e : SerializeError) → (long → long') → (grows → grows') → (wrong → wrong') → Stops m n long grows wrong e → Stops m n long' grows' wrong' e
stops_too m n long grows wrong long' grows' wrong' (writes.ASN1Error x) f g h s = (h s.0, s.1)
stops_too m n long grows wrong long' grows' wrong' (writes.InvalidClass x) f g h s = (h s.0, s.1)
stops_too m n long grows wrong long' grows' wrong' writes.InvalidLength f g h s = (f s.0, s.1)
stops_too m n long grows wrong long' grows' wrong' writes.IOError f g h s = s
stops_too m n long grows wrong long' grows' wrong' writes.OutOfMemory f g h s = (g s.0, s.1)

-- the count of failures at the beginning
pub stops_from : (l m n : ℕ) (long grows wrong : Type 0) (e : SerializeError) → m ≡ l → Stops m n long grows wrong e → Stops l n long grows wrong e
stops_from l m n long grows wrong e p s = subst (λ k. Stops k n long grows wrong e) p s

-- a part is written by the rules of the whole
pub writes_too : (a b : Option (List ℕ)) (m n : ℕ) (long grows wrong long' grows' wrong' : Type 0) (xs : List ℕ) (r : Result ℕ SerializeError) →
    (long → long') → (grows → grows') → (wrong → wrong') → Writes a b m n long grows wrong xs r → Writes a b m n long' grows' wrong' xs r
writes_too a b m n long grows wrong long' grows' wrong' xs (Ok k) f g h w = record { ok = w.ok; err = tt }
writes_too a b m n long grows wrong long' grows' wrong' xs (Err e) f g h w = record { ok = tt; err = (w.err.0, stops_too m n long grows wrong long' grows' wrong' e f g h w.err.1) }

pub long_first : (xs ys : List ℕ) → IsLong xs → IsLong (xs ++ ys)
long_first xs ys p = omega (arith, length-append xs ys)

pub long_second : (xs ys : List ℕ) → IsLong ys → IsLong (xs ++ ys)
long_second xs ys p = omega (arith, length-append xs ys)

-- both parts are written
pub both_written : (a b c : Option (List ℕ)) (l m n j k : ℕ) (xs ys : List ℕ) → Appends a b xs × (j ≡ length xs) × (m ≡ l) → Appends b c ys × (k ≡ length ys) × (n ≡ m) → Appends a c (xs ++ ys) × (j + k ≡ length (xs ++ ys)) × (n ≡ l)
both_written a b c l m n j k xs ys p q = (appends_two a b c xs ys p.0 q.0, omega (arith, p.1, q.1, length-append xs ys), q.2 ∙ p.2)

whole_is : (o : Option Element) → written o ≡ header_of o ++ content_of o
whole_is None = refl
whole_is (Some e) = refl

as_whole : (o : Option Element) (a b : Option (List ℕ)) → AppendsFront a b (header_of o ++ content_of o) → AppendsFront a b (written o)
as_whole o a b f = let P : List ℕ → Type 0 = λ z. AppendsFront a b z in subst P (sym (whole_is o)) f

long_whole : (o : Option Element) → IsLong (header_of o ++ content_of o) → IsLong (written o)
long_whole o h = let P : List ℕ → Type 0 = λ z. IsLong z in subst P (sym (whole_is o)) h

-- the header wasn't written
pub header_stopped : (o : Option Element) (a b : Option (List ℕ)) (m n : ℕ) (long grows wrong : Type 0) (e : SerializeError) →
    AppendsFront a b (header_of o) × Stops m n long grows wrong e → Writes a b m n long grows wrong (written o) (Err e)
header_stopped o a b m n long grows wrong e w = record { ok = tt; err = (as_whole o a b (front_first a b (header_of o) (content_of o) w.0), w.1) }

-- the header was written, the content wasn't
pub content_stopped : (o : Option Element) (a b c : Option (List ℕ)) (l m n j : ℕ) (grows wrong : Type 0) (e : SerializeError) →
    Appends a b (header_of o) × (j ≡ length (header_of o)) × (m ≡ l) → AppendsFront b c (content_of o) × Stops m n (IsLong (content_of o)) grows wrong e →
    Writes a c l n (IsLong (written o)) grows wrong (written o) (Err e)
content_stopped o a b c l m n j grows wrong e p w = record {
  ok = tt;
  err = (
    as_whole o a c (front_second a b c (header_of o) (content_of o) p.0 w.0),
    stops_from l m n (IsLong (written o)) grows wrong e p.2
        (stops_too m n (IsLong (content_of o)) grows wrong (IsLong (written o)) grows wrong e (λ h. long_whole o (long_second (header_of o) (content_of o) h)) (λ h. h) (λ h. h) w.1),
  );
}

-- both were written, and are too many to be counted
pub whole_too_long : (o : Option Element) (a b c : Option (List ℕ)) (l m n j k : ℕ) (grows wrong : Type 0) →
    Appends a b (header_of o) × (j ≡ length (header_of o)) × (m ≡ l) → Appends b c (content_of o) × (k ≡ length (content_of o)) × (n ≡ m) → 2 ^ 64 ≤ j + k →
    Writes a c l n (IsLong (written o)) grows wrong (written o) (Err writes.InvalidLength)
whole_too_long o a b c l m n j k grows wrong p q long =
    let both = both_written a b c l m n j k (header_of o) (content_of o) p q in
    record { ok = tt; err = (as_whole o a c (front_all a c (header_of o ++ content_of o) both.0), (long_whole o (omega (arith, both.1, long)), both.2)) }
