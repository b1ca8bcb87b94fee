-- What comes before and after an octet, and after a word.
use Rattle.std.specs.Prelude.{nat_eq}
use Rattle.std.proofs.Common.{◌≡◌, ◌≢◌, ◌∙◌, sym, ap, refl, ℕ, suc, ◌+◌, ◌-◌, ◌<◌, List, [], ◌∷◌, ◌++◌, length, take, drop, arith, length-append, length-drop, get_or, true, false, Option, Some, None, IfSome, IsSomeAnd, Result, Ok, Err}
use Rattle.std.specs.List.{All}
use Rattle.std.specs.Option.{MatchOption, IfNone, IsSome, is_some}
use Rattle.std.specs.Result.{MatchResult, OnOk, IfErr, result_ok}
use Rattle.std.specs.Cmp.Lexicographic.{pointwise, same_text, other_text}
use Rattle.std.proofs.Math.Seq.{split_at, get_or-append_seam, take-append_seam, drop-append_seam}
use Rattle.std.proofs.lemmas.List.{take_all, take-append-drop}
use Rattle.std.proofs.lemmas.List.Elements.{All-head, All-tail, All-cons}

-- the octets are all others
abbrev pub HasNo : ℕ → List ℕ → Type 0
HasNo octet octets = All (λ o. o ≢ octet) octets

-- what comes after the octet at a place, as a slice takes it
pub split_there : (text : List ℕ) (octet k : ℕ) → k < length text → ((d : ℕ) → get_or text k d ≡ octet) → text ≡ take k text ++ octet ∷ take (length text - (k + 1)) (drop (k + 1) text)
split_there text octet k lt is =
    let next : suc k ≡ k + 1 = omega arith in
    let after = drop (k + 1) text in
    split_at text k 0 lt ∙ ap (λ a. take k text ++ a ∷ drop (suc k) text) (is 0) ∙ ap (λ n. take k text ++ octet ∷ drop n text) next
    ∙ ap (λ z. take k text ++ octet ∷ z) (sym (take_all (length text - (k + 1)) after (omega (arith, length-drop (k + 1) text))))

abbrev pub head : {X : Type 0} → X → List X → X
head n [] = n
head n (x ∷ xs) = x

abbrev pub tail : {X : Type 0} → List X → List X
tail [] = []
tail (x ∷ xs) = xs

-- two fronts without the octet of one text, the octet coming next, are equal, and so is what comes
-- after
pub seam : (octet : ℕ) (k l x y : List ℕ) → HasNo octet k → HasNo octet l → k ++ octet ∷ x ≡ l ++ octet ∷ y → (k ≡ l) × (x ≡ y)
seam octet [] [] x y p q e = (refl, ap tail e)
seam octet [] (b ∷ l) x y p q e = absurd (All-head (λ o. o ≢ octet) b l q (sym (ap (head 0) e)))
seam octet (a ∷ k) [] x y p q e = absurd (All-head (λ o. o ≢ octet) a k p (ap (head 0) e))
seam octet (a ∷ k) (b ∷ l) x y p q e =
    let m = seam octet k l x y (All-tail (λ o. o ≢ octet) a k p) (All-tail (λ o. o ≢ octet) b l q) (ap tail e) in
    (ap (λ z. z ∷ k) (ap (head 0) e) ∙ ap (λ z. b ∷ z) m.0, m.1)

pub not_there : (octet : ℕ) (s l y : List ℕ) → HasNo octet s → s ≡ l ++ octet ∷ y → ⊥
not_there octet s l y none e =
    let at : get_or s (length l) 0 ≡ octet = ap (λ z. get_or z (length l) 0) e ∙ get_or-append_seam l octet y 0 in
    none (length l) 0 (omega (arith, ap length e, length-append l (octet ∷ y))) at

-- a text that begins with a word, as `strip_prefix` says it
abbrev Strips : {X : Type 0} → (X → List ℕ) → List ℕ → List ℕ → Option X → Type 0
Strips now text word r = MatchOption r (pointwise nat_eq (take (length word) text) word ≡ false)
    (λ x. (pointwise nat_eq (take (length word) text) word ≡ true) × (now x ≡ drop (length word) text) × (length (now x) + length word ≡ length text))

pub stripped : {X : Type 0} (now : X → List ℕ) (text word : List ℕ) (r : Option X) → Strips now text word r → IfSome r (λ x. text ≡ word ++ now x)
stripped now text word None h = tt
stripped now text word (Some x) h =
    sym (take-append-drop (length word) text) ∙ ap (λ z. z ++ drop (length word) text) (same_text (take (length word) text) word (sym h.0)) ∙ ap (λ z. word ++ z) (sym h.1)

pub stripped_only : {X : Type 0} (now : X → List ℕ) (text word : List ℕ) (r : Option X) → Strips now text word r → (rest : List ℕ) → text ≡ word ++ rest → IsSomeAnd r (λ x. now x ≡ rest)
stripped_only now text word None h rest e = absurd (other_text (take (length word) text) word (sym h) (ap (take (length word)) e ∙ take-append_seam word rest))
stripped_only now text word (Some x) h rest e = h.1 ∙ ap (drop (length word)) e ∙ drop-append_seam word rest

-- if the word doesn't begin the text
pub none_begins : {X : Type 0} (now : X → List ℕ) (text word : List ℕ) (r : Option X) → ((rest : List ℕ) → text ≡ word ++ rest → IsSomeAnd r (λ x. now x ≡ rest)) → IfNone r ((rest : List ℕ) → text ≡ word ++ rest → ⊥)
none_begins now text word None only = λ rest e. only rest e
none_begins now text word (Some x) only = tt

pub front_gone : (word x y : List ℕ) → word ++ x ≡ word ++ y → x ≡ y
front_gone word x y e = sym (drop-append_seam word x) ∙ ap (drop (length word)) e ∙ drop-append_seam word y

pub nowhere : (octet : ℕ) → HasNo octet []
nowhere octet = λ k d lt. absurd (omega arith)

pub no_more : (octet x : ℕ) (xs : List ℕ) → x ≢ octet → HasNo octet xs → HasNo octet (x ∷ xs)
no_more octet x xs other none = All-cons (λ o. o ≢ octet) x xs other none

-- what holds of results

pub if_none : {X : Type 0} (o : Option X) (P : Type 0) → P → IfNone o P
if_none None P p = p
if_none (Some x) P p = tt

pub on_ok : {A E : Type 0} (r : Result A E) (P Q : Type 0) → (P → Q) → OnOk r P → OnOk r Q
on_ok (Ok x) P Q f p = f p
on_ok (Err e) P Q f p = tt

pub if_err : {A E : Type 0} (r : Result A E) (P Q : E → Type 0) → ((e : E) → P e → Q e) → IfErr r P → IfErr r Q
if_err (Ok x) P Q f p = tt
if_err (Err e) P Q f p = f e p

pub utf8_some : {X E : Type 0} (r : Result X E) (o : Option X) (P : X → Type 0) (Q : E → Type 0) (U : Type 0) → MatchResult r P (λ e. (¬ U) × Q e) → U → o ≡ result_ok r → IsSome o
utf8_some (Ok x) o P Q U h u e = ap is_some e
utf8_some (Err x) o P Q U h u e = absurd (h.0 u)
