-- The octets of a subidentifier, digit by digit.
use Rattle.std.proofs.Common.{◌≡◌, ℕ, zero, suc, ◌+◌, ◌*◌, ◌/◌, ◌%◌, ◌<◌, List, [], ◌∷◌, ◌++◌, refl, sym, ap, ◌∙◌, append_assoc, append-nil, arith}
use Rattle.std.proofs.lemmas.Bool.{cond-false, ne_eqb}
use Rattle.std.proofs.lemmas.Int.Digits.{digits_of_step}
use Rattle.std.proofs.lemmas.Nat.{mod-mul-add, div-mul-add}
use Rattle.std.specs.Int.Digits.{digits_of}
use Rattle.asn1_core.specs.Digits.{continued}
use Rattle.asn1_oid.specs.Identifier.{shortest_digits, subidentifier_octets, content_octets}
use Rattle.asn1_oid.specs.Spelling.{high}

continued-push : (ds : List ℕ) (d : ℕ) → continued (ds ++ d ∷ []) ≡ high ds ++ d ∷ []
continued-push [] d = refl
continued-push (a ∷ []) d = refl
continued-push (a ∷ b ∷ ds) d = ap (λ (l : List ℕ). (128 + a) ∷ l) (continued-push (b ∷ ds) d)

pub high-push : (ds : List ℕ) (d : ℕ) → high (ds ++ d ∷ []) ≡ high ds ++ (128 + d) ∷ []
high-push [] d = refl
high-push (a ∷ ds) d = ap (λ (l : List ℕ). (128 + a) ∷ l) (high-push ds d)

-- one more digit, if the number is not 0
pub digits_of-push : (n d : ℕ) → d < 128 → 0 < n * 128 + d → digits_of 128 (n * 128 + d) ≡ digits_of 128 n ++ d ∷ []
digits_of-push n d below some =
    let step = digits_of_step 128 (n * 128 + d) (omega arith) some in
    rw (div-mul-add n 128 d below, mod-mul-add n 128 d below) at step

-- the fewest digits of a number are those of its high part, and its low digit
pub shortest_digits-push : (n d : ℕ) → d < 128 → shortest_digits (n * 128 + d) ≡ digits_of 128 n ++ d ∷ []
shortest_digits-push zero zero below = refl
shortest_digits-push zero (suc d) below = cond-false _ _ _ (ne_eqb (zero * 128 + suc d) 0 (λ e. omega arith)) ∙ digits_of-push zero (suc d) below (omega arith)
shortest_digits-push (suc n) d below = cond-false _ _ _ (ne_eqb (suc n * 128 + d) 0 (λ e. omega arith)) ∙ digits_of-push (suc n) d below (omega arith)

-- a subidentifier's octets: the high part's digits with bit 8 set, then the low digit
pub subidentifier_octets-push : (n d : ℕ) → d < 128 → subidentifier_octets (n * 128 + d) ≡ high (digits_of 128 n) ++ d ∷ []
unfolding subidentifier_octets
subidentifier_octets-push n d below = ap continued (shortest_digits-push n d below) ∙ continued-push (digits_of 128 n) d

-- a subidentifier's octets, from its number
pub subidentifier_octets-split : (n : ℕ) → subidentifier_octets n ≡ high (digits_of 128 (n / 128)) ++ (n % 128) ∷ []
subidentifier_octets-split n =
    let same : n ≡ n / 128 * 128 + n % 128 = omega arith in
    ap subidentifier_octets same ∙ subidentifier_octets-push (n / 128) (n % 128) (omega arith)

pub high-digits_of : (n : ℕ) → 0 < n → high (digits_of 128 n) ≡ high (digits_of 128 (n / 128)) ++ (128 + n % 128) ∷ []
high-digits_of n some = ap high (digits_of_step 128 n (omega arith) some) ∙ high-push (digits_of 128 (n / 128)) (n % 128)

pub content_octets-append : (ms ns : List ℕ) → content_octets (ms ++ ns) ≡ content_octets ms ++ content_octets ns
content_octets-append [] ns = refl
content_octets-append (m ∷ ms) ns =
    ap (λ (l : List ℕ). subidentifier_octets m ++ l) (content_octets-append ms ns)
    ∙ sym (append_assoc (subidentifier_octets m) (content_octets ms) (content_octets ns))

pub content_octets-push : (ns : List ℕ) (n : ℕ) → content_octets (ns ++ n ∷ []) ≡ content_octets ns ++ subidentifier_octets n
content_octets-push ns n = content_octets-append ns (n ∷ []) ∙ ap (λ (l : List ℕ). content_octets ns ++ l) (append-nil (subidentifier_octets n))
