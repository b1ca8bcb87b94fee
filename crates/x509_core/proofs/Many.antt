-- Steps of reading as many as begin.
use Rattle.std.proofs.Common.{◌≡◌, ◌∙◌, sym, ap, refl, ℕ, ◌<◌, ◌≤◌, List, [], ◌∷◌, ◌++◌, Bool, true, false, length, arith, nat_lt, Ok, Err, zero, suc, if◌then◌else◌, append_assoc}
use Rattle.std.proofs.lemmas.List.{append-nil}
use Rattle.std.proofs.lemmas.Bool.{ltb-true, le-ltb, lt-ltb}
use Rattle.std.proofs.Common.{Some, None, option_map}
use Rattle.std.specs.Result.{result_ok}
use Rattle.asn1_core.specs.declared.outcome.Err.{Err as Refusal}
use Rattle.asn1_core.specs.declared.outcome.Err.TheVariants as refusals
use Rattle.asn1_any.specs.Cutting.{Piece}
use Rattle.x509_core.specs.declared.error.X509Error.{X509Error}
use Rattle.x509_core.specs.declared.error.X509Error.TheVariants as errors
use Rattle.x509_core.specs.Answers.{Answer, Why, named, unnamed, Fails, FailsWith, ◌>>=◌}
use Rattle.x509_core.specs.Reading.{Reader, piece_at, first_piece, next, many_after, many_within, many_of}

after_cond : {A : Type 0} (b : Bool) (x : A) (u v w : List A × List ℕ) → (b ≡ true → u ≡ v) → ◌≡◌ {A = List A × List ℕ} (if b then (x ∷ u.0, u.1) else w) (if b then (x ∷ v.0, v.1) else w)
after_cond true x u v w h = ap (λ z. (x ∷ z.0, z.1)) (h refl)
after_cond false x u v w h = refl

after_same : {A : Type 0} (go to : List ℕ → List A × List ℕ) (i : List ℕ) (o : Answer (A × List ℕ)) → ((r : List ℕ) → length r < length i → go r ≡ to r) → many_after go i o ≡ many_after to i o
after_same go to i (Err e) h = refl
after_same go to i (Ok x) h = after_cond (nat_lt (length x.1) (length i)) x.0 (go x.1) (to x.1) ([], i) (λ t. h x.1 (ltb-true (length x.1) (length i) t))

after_none : {A : Type 0} (go : List ℕ → List A × List ℕ) (o : Answer (A × List ℕ)) → many_after go [] o ≡ ([], [])
after_none go (Err e) = refl
after_none go (Ok (v, [])) = refl
after_none go (Ok (v, x ∷ r)) = rw (le-ltb (length (x ∷ r)) 0 (omega arith)) refl

many_enough : {A : Type 0} (p : Reader A) (n m : ℕ) (i : List ℕ) → length i ≤ n → length i ≤ m → many_within n p i ≡ many_within m p i
unfolding many_within
many_enough p zero zero i a b = refl
many_enough p zero (suc m) [] a b = sym (after_none (many_within m p) (p []))
many_enough p zero (suc m) (x ∷ i) a b = absurd (omega arith)
many_enough p (suc n) zero [] a b = after_none (many_within n p) (p [])
many_enough p (suc n) zero (x ∷ i) a b = absurd (omega arith)
many_enough p (suc n) (suc m) i a b = after_same (many_within n p) (many_within m p) i (p i) (λ r lt. many_enough p n m r (omega arith) (omega arith))

-- what is read, by one step
pub many_step : {A : Type 0} (p : Reader A) (i : List ℕ) → many_of p i ≡ many_after (many_of p) i (p i)
unfolding many_of many_within
many_step p [] = sym (after_none (many_of p) (p []))
many_step p (x ∷ i) = after_same (many_within (length i) p) (many_of p) (x ∷ i) (p (x ∷ i)) (λ r lt. many_enough p (length i) (length r) r (omega arith) (omega arith))

abbrev pub with_front : {A : Type 0} → List A → List A × List ℕ → List A × List ℕ
with_front xs m = (xs ++ m.0, m.1)

pub many_more : {A : Type 0} (p : Reader A) (xs : List A) (i r : List ℕ) (v : A) → p i ≡ Ok (v, r) → length r < length i → with_front xs (many_of p i) ≡ with_front (xs ++ v ∷ []) (many_of p r)
many_more p xs i r v e lt =
    let test : nat_lt (length r) (length i) ≡ true = lt-ltb (length r) (length i) lt in
    let step : many_of p i ≡ (v ∷ (many_of p r).0, (many_of p r).1) = many_step p i ∙ ap (many_after (many_of p) i) e ∙ ap (λ (b : Bool). if b then (v ∷ (many_of p r).0, (many_of p r).1) else ([], i)) test in
    ap (with_front xs) step ∙ ap (λ l. (l, (many_of p r).1)) (sym (append_assoc xs (v ∷ []) (many_of p r).0))

pub many_stops : {A : Type 0} (p : Reader A) (xs : List A) (i : List ℕ) (y : Why) → p i ≡ Err y → with_front xs (many_of p i) ≡ (xs, i)
many_stops p xs i y e = ap (with_front xs) (many_step p i ∙ ap (many_after (many_of p) i) e) ∙ ap (λ l. (l, i)) (append-nil xs)

-- ---- by the element at the front

was_ok : {A : Type 0} (r : Answer A) (x : A) → result_ok r ≡ Some x → r ≡ Ok x
was_ok (Ok y) x told = let same : y ≡ x = cc in ap (λ z. Ok z) same
was_ok (Err e) x told = cc

first_of : {A B : Type 0} (r : Answer (A × B)) (x : A) → option_map (λ p. p.0) (result_ok r) ≡ Some x → (y : B) × (r ≡ Ok (x, y))
first_of (Ok p) x told = let same : p.0 ≡ x = cc in (p.1, ap (λ z. Ok (z, p.1)) same)
first_of (Err e) x told = cc

none_of : {A B : Type 0} (r : Answer (A × B)) → option_map (λ p. p.0) (result_ok r) ≡ None → (y : Why) × (r ≡ Err y)
none_of (Ok p) told = cc
none_of (Err e) told = (e, refl)

pub next_more : {A : Type 0} (p : Piece → Answer A) (xs : List A) (i r : List ℕ) (e : Piece) (v : A) → first_piece i ≡ Some e → ((x : Piece) → first_piece i ≡ Some x → piece_at i ≡ Ok (x, r)) → p e ≡ Ok v → length r < length i
    → with_front xs (many_of (next p) i) ≡ with_front (xs ++ v ∷ []) (many_of (next p) r)
next_more {A = A} p xs i r e v front read value shorter =
    let step : next p i ≡ Ok (v, r) = ap (λ (z : Answer (Piece × List ℕ)). z >>= λ q. p q.0 >>= λ w. Ok (w, q.1)) (read e front) ∙ ap (λ (z : Answer A). z >>= λ w. Ok (w, r)) value in
    many_more (next p) xs i r v step shorter

pub next_stops : {A : Type 0} (p : Piece → Answer A) (xs : List A) (i : List ℕ) (e : Piece) (y : Why) → first_piece i ≡ Some e → p e ≡ Err y → with_front xs (many_of (next p) i) ≡ (xs, i)
next_stops {A = A} p xs i e y front refused =
    let read = first_of (piece_at i) e front in
    let step : next p i ≡ Err y = ap (λ (z : Answer (Piece × List ℕ)). z >>= λ q. p q.0 >>= λ w. Ok (w, q.1)) read.1 ∙ ap (λ (z : Answer A). z >>= λ w. Ok (w, read.0)) refused in
    many_stops (next p) xs i y step

pub next_ends : {A : Type 0} (p : Piece → Answer A) (xs : List A) (i : List ℕ) → first_piece i ≡ None → with_front xs (many_of (next p) i) ≡ (xs, i)
next_ends {A = A} p xs i none =
    let read = none_of (piece_at i) none in
    let step : next p i ≡ Err read.0 = ap (λ (z : Answer (Piece × List ℕ)). z >>= λ q. p q.0 >>= λ w. Ok (w, q.1)) read.1 in
    many_stops (next p) xs i read.0 step

pub error_by : {Y : Type 0} (e : X509Error) (read : Answer Y) → FailsWith e read → (y : Why) × (read ≡ Err y)
error_by errors.OutOfMemory read fails = absurd fails
error_by (errors.Der e) read fails = (unnamed, fails.1)
error_by (errors.NomError k) read fails = (unnamed, fails)
error_by e read fails = (named e, fails)

-- a refusal that isn't `OutOfMemory` is the reading's
pub refused_by : {Y : Type 0} (r : Refusal X509Error) (read : Answer Y) → Fails r read → ((e : X509Error) → r ≡ refusals.Failure e → ⊥) → (y : Why) × (read ≡ Err y)
refused_by (refusals.Incomplete n) read fails other = (unnamed, fails)
refused_by (refusals.Failure e) read fails other = absurd (other e refl)
refused_by (refusals.Error e) read fails other = error_by e read fails
