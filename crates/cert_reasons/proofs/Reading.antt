-- Elements written one after another, and read one by one.
use Rattle.std.proofs.Common.{◌≡◌, ◌≢◌, ◌∙◌, ap, sym, refl, ℕ, ◌<◌, Bool, true, false, Option, Some, None, Result, Ok, Err, List, [], ◌∷◌, ◌++◌, length, append_assoc, arith}
use Rattle.std.specs.Prelude.{◌==◌, IfOk, MatchOption}
use Rattle.std.specs.List.{AllByRecursion, flat_map}
use Rattle.std.proofs.lemmas.Bool.{false≢true}
use Rattle.std.proofs.lemmas.List.{append-nil, flat_map_more}
use Rattle.std.proofs.lemmas.List.Concat.{flat_map-cons}

-- an element takes up octets
abbrev pub IsLong : {X : Type 0} → (X → List ℕ) → Type 0
IsLong {X} octets = (x : X) (rest : List ℕ) → length rest < length (octets x ++ rest)

-- the elements up to here
pub record IsRead {X : Type 0} (octets : X → List ℕ) (Good : X → Type 0) (content rest : List ℕ) (xs : List X) : Type 0 where
  pub each : AllByRecursion Good xs
  pub spelled : content ≡ flat_map octets xs ++ rest
  pub only : (ys : List X) → AllByRecursion Good ys → content ≡ flat_map octets ys → (zs : List X) × AllByRecursion Good zs × (rest ≡ flat_map octets zs) × (ys ≡ xs ++ zs)

-- what is answered of the next one
abbrev pub IsNext : {X : Type 0} → (X → List ℕ) → (X → Type 0) → List ℕ → X → List ℕ → Type 0
IsNext {X} octets Good rest one behind = (x : X) (r : List ℕ) → Good x → rest ≡ octets x ++ r → (one ≡ x) × (behind ≡ r)

all_push : {X : Type 0} (P : X → Type 0) (xs : List X) (x : X) → AllByRecursion P xs → P x → AllByRecursion P (xs ++ x ∷ [])
all_push P [] x h p = (p, tt)
all_push P (y ∷ ys) x h p = (h.0, all_push P ys x h.1 p)

long_some : {X : Type 0} (octets : X → List ℕ) → IsLong octets → (x : X) (rest : List ℕ) → octets x ++ rest ≢ []
long_some octets long x rest e = let lt = long x rest in let z : length (octets x ++ rest) ≡ 0 = ap length e in omega arith

pub read_none : {X : Type 0} (octets : X → List ℕ) (Good : X → Type 0) (content : List ℕ) → IsRead octets Good content content []
read_none octets Good content = record { each = tt; spelled = refl; only = λ ys a e. (ys, a, e, refl) }

next_only : {X : Type 0} (octets : X → List ℕ) (Good : X → Type 0) (rest : List ℕ) (one : X) (behind : List ℕ) (xs zs ys : List X) → IsLong octets → rest ≡ octets one ++ behind → IsNext octets Good rest one behind → AllByRecursion Good zs
    → rest ≡ flat_map octets zs → ys ≡ xs ++ zs
    → (ts : List X) × AllByRecursion Good ts × (behind ≡ flat_map octets ts) × (ys ≡ (xs ++ one ∷ []) ++ ts)
next_only octets Good rest one behind xs [] ys long s n a e q = absurd (long_some octets long one behind (sym s ∙ e))
next_only octets Good rest one behind xs (z ∷ zs) ys long s n a e q =
    let x = n z (flat_map octets zs) a.0 (e ∙ flat_map-cons octets z zs) in
    (zs, a.1, x.1, q ∙ ap (λ w. xs ++ w ∷ zs) (sym x.0) ∙ sym (append_assoc xs (one ∷ []) zs))

pub read_more : {X : Type 0} (octets : X → List ℕ) (Good : X → Type 0) (content rest : List ℕ) (one : X) (behind : List ℕ) (xs : List X) → IsLong octets → IsRead octets Good content rest xs → Good one → rest ≡ octets one ++ behind
    → IsNext octets Good rest one behind → IsRead octets Good content behind (xs ++ one ∷ [])
read_more octets Good content rest one behind xs long r o s n = record {
  each = all_push Good xs one r.each o;
  spelled = r.spelled ∙ ap (λ z. flat_map octets xs ++ z) s ∙ sym (append_assoc (flat_map octets xs) (octets one) behind) ∙ ap (λ z. z ++ behind) (flat_map_more octets [] xs one);
  only = λ ys a e. let x = r.only ys a e in next_only octets Good rest one behind xs x.0 ys long s n x.1 x.2 x.3;
}

pub ended : {X : Type 0} (octets : X → List ℕ) (xs : List X) → IsLong octets → [] ≡ flat_map octets xs → xs ≡ []
ended octets [] long e = refl
ended octets (x ∷ xs) long e = absurd (long_some octets long x (flat_map octets xs) (sym (flat_map-cons octets x xs) ∙ sym e))

-- all is read
pub read_end : {X : Type 0} (octets : X → List ℕ) (Good : X → Type 0) (content rest : List ℕ) (xs : List X) → rest ≡ [] → IsRead octets Good content rest xs → AllByRecursion Good xs × (content ≡ flat_map octets xs)
read_end octets Good content rest xs z r = (r.each, r.spelled ∙ ap (λ y. flat_map octets xs ++ y) z ∙ append-nil (flat_map octets xs))

stuck : {X : Type 0} (octets : X → List ℕ) (Good : X → Type 0) (rest : List ℕ) (zs : List X) → rest ≢ [] → AllByRecursion Good zs → rest ≡ flat_map octets zs → ((x : X) (r : List ℕ) → Good x → rest ≡ octets x ++ r → ⊥) → ⊥
stuck octets Good rest [] some a e none = some e
stuck octets Good rest (z ∷ zs) some a e none = none z (flat_map octets zs) a.0 (e ∙ flat_map-cons octets z zs)

-- nothing is read further
pub read_stuck : {X : Type 0} (octets : X → List ℕ) (Good : X → Type 0) (content rest : List ℕ) (xs : List X) → rest ≢ [] → IsRead octets Good content rest xs → ((x : X) (r : List ℕ) → Good x → rest ≡ octets x ++ r → ⊥)
    → (ys : List X) → AllByRecursion Good ys → content ≡ flat_map octets ys → ⊥
read_stuck octets Good content rest xs some r none ys a e = let x = r.only ys a e in stuck octets Good rest x.0 some x.1 x.2 none

-- what a test of emptiness says
pub some_left : (xs : List ℕ) (b : Bool) → b ≡ (length xs == 0) → b ≡ false → xs ≢ []
some_left xs b is f e = absurd (false≢true (sym f ∙ is ∙ ap (λ (z : List ℕ). length z == 0) e))

pub none_left : (xs : List ℕ) (b : Bool) → b ≡ (length xs == 0) → b ≡ true → xs ≡ []
none_left [] b is t = refl
none_left (x ∷ xs) b is t = absurd (grind arith)

-- an answer that says less
pub told_less : {X E : Type 0} (N M : Type 0) (P Q : X → Type 0) → (N → M) → ((x : X) → P x → Q x) → (r : Result (Option X) E) → IfOk r (λ o. MatchOption o N P) → IfOk r (λ o. MatchOption o M Q)
told_less N M P Q f g (Ok None) h = f h
told_less N M P Q f g (Ok (Some x)) h = g x h
told_less N M P Q f g (Err e) h = tt
