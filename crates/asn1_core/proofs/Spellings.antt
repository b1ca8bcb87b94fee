-- Digits written from the last to the first.
use Rattle.std.proofs.Common.{◌≡◌, ◌≢◌, ℕ, suc, ◌+◌, ◌/◌, ◌%◌, ◌^◌, ◌<◌, ◌≤◌, length, List, [], ◌∷◌, ◌++◌, map, refl, ap, ◌∙◌, arith, append_assoc}
use Rattle.std.specs.Int.Digits.{digits_of}
use Rattle.std.proofs.lemmas.Int.Digits.{digits_of_step, length-digits_of-le}
use Rattle.asn1_core.specs.Digits.{continued}
use Rattle.asn1_core.proofs.Numbers.{continued_more}

-- the last digit before a tail
pub last_digit : (b n : ℕ) (tail : List ℕ) → 2 ≤ b → 0 < n → digits_of b n ++ tail ≡ digits_of b (n / b) ++ (n % b ∷ tail)
last_digit b n tail two pos = ap (λ ds. ds ++ tail) (digits_of_step b n two pos) ∙ append_assoc (digits_of b (n / b)) (n % b ∷ []) tail

map_append : (ds es : List ℕ) → map (λ d. 128 + d) (ds ++ es) ≡ map (λ d. 128 + d) ds ++ map (λ d. 128 + d) es
map_append [] es = refl
map_append (d ∷ ds) es = ap (λ r. (128 + d) ∷ r) (map_append ds es)

-- the last digit with bit 8 before a tail
pub last_high_digit : (n : ℕ) (tail : List ℕ) → 0 < n
    → map (λ d. 128 + d) (digits_of 128 n) ++ tail ≡ map (λ d. 128 + d) (digits_of 128 (n / 128)) ++ ((128 + n % 128) ∷ tail)
last_high_digit n tail pos =
    ap (λ ds. map (λ d. 128 + d) ds ++ tail) (digits_of_step 128 n (omega arith) pos)
    ∙ ap (λ ds. ds ++ tail) (map_append (digits_of 128 (n / 128)) (n % 128 ∷ []))
    ∙ append_assoc (map (λ d. 128 + d) (digits_of 128 (n / 128))) ((128 + n % 128) ∷ []) tail

some_last : (ds : List ℕ) (d : ℕ) → ds ++ d ∷ [] ≢ []
some_last [] d e = cc
some_last (x ∷ ds) d e = cc

-- bit 8 is set in each digit but the last
continued_last : (ds : List ℕ) (d : ℕ) → continued (ds ++ d ∷ []) ≡ map (λ x. 128 + x) ds ++ d ∷ []
continued_last [] d = refl
continued_last (x ∷ ds) d = continued_more x (ds ++ d ∷ []) (some_last ds d) ∙ ap (λ r. (128 + x) ∷ r) (continued_last ds d)

-- the last digit of a tag number before a tail
pub last_tag_digit : (n : ℕ) (tail : List ℕ) → 0 < n → continued (digits_of 128 n) ++ tail ≡ map (λ d. 128 + d) (digits_of 128 (n / 128)) ++ (n % 128 ∷ tail)
last_tag_digit n tail pos =
    ap (λ ds. continued ds ++ tail) (digits_of_step 128 n (omega arith) pos)
    ∙ ap (λ ds. ds ++ tail) (continued_last (digits_of 128 (n / 128)) (n % 128))
    ∙ append_assoc (map (λ d. 128 + d) (digits_of 128 (n / 128))) (n % 128 ∷ []) tail

-- one octet for each digit
pub length-continued : (ds : List ℕ) → length (continued ds) ≡ length ds
length-continued [] = refl
length-continued (d ∷ []) = refl
length-continued (d ∷ e ∷ ds) = ap (λ n. suc n) (length-continued (e ∷ ds))

-- a tag number has at most five digits, a length at most eight
pub tag_digits : (n : ℕ) → n < 2 ^ 32 → length (digits_of 128 n) ≤ 5
tag_digits n small = length-digits_of-le 128 5 n (omega arith) (omega arith)

pub length_digits : (n : ℕ) → n < 2 ^ 64 → length (digits_of 256 n) ≤ 8
length_digits n small = length-digits_of-le 256 8 n (omega arith) (omega arith)
