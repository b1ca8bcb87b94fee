-- Numbers in decimal.
use Rattle.std.proofs.Common.{◌≡◌, ◌≢◌, ◌∙◌, sym, ap, subst, refl, ℕ, ◌<◌, ◌^◌, List, [], ◌∷◌, length, arith, rules, get_or, Option, Some, IfSome, Result, Ok, Err, zero, suc, inl, inr}
use Rattle.std.specs.List.{All, AllByRecursion}
use Rattle.std.specs.Char.{IsAsciiDigit}
use Rattle.std.specs.Fmt.{decimal}
use Rattle.std.specs.Int.{IsInRange}
use Rattle.std.specs.Result.{result_ok}
use Rattle.std.specs.Str.{IsUtf8}
use Rattle.std.specs.Str.Parse.{ParsesUnsigned, digits_value}
use Rattle.std.proofs.lemmas.Bool.{cases_lt}
use Rattle.std.proofs.lemmas.Fmt.{decimal_digit, first_decimal, digits_decimal, decimal-digits_value, parse-decimal}
use Rattle.std.proofs.lemmas.List.{get_or_default}
use Rattle.std.proofs.lemmas.Str.{IsUtf8-from_ascii}
use Rattle.std.proofs.lemmas.Str.Ascii.{IsAscii-from_reads}
use Rattle.std.proofs.lemmas.Str.Parse.{IsNumeralModel, numerals_by_value, parse_digits, not_in_digits}

abbrev AreDigits : List ℕ → Type 0
AreDigits text = AllByRecursion IsAsciiDigit text

own : IsNumeralModel AreDigits (digits_value 10)
own = numerals_by_value AreDigits (search rules)

pub digits_of : (text : List ℕ) (n : ℕ) → n < 2 ^ 64 → text ≡ decimal n → AllByRecursion IsAsciiDigit text
digits_of text n small e = subst AreDigits (sym e) (digits_decimal own n small)

-- no octet of a number is any other than a digit
pub no_other : (octet n : ℕ) → n < 2 ^ 64 → (IsInRange 48 57 octet → ⊥) → All (λ o. o ≢ octet) (decimal n)
no_other octet n small other = λ k d lt e. not_in_digits own (decimal n) octet (digits_decimal own n small) other k lt (get_or_default (decimal n) k 0 d lt ∙ e)

first_digit : (text : List ℕ) (n : ℕ) → n < 2 ^ 64 → text ≡ decimal n → get_or text 0 0 ≡ 48 → n ≡ 0
first_digit text zero small e first = refl
first_digit text (suc n) small e first = let above = first_decimal (suc n) (omega arith) small in let is : get_or (decimal (suc n)) 0 0 ≡ 48 = sym (ap (λ z. get_or z 0 0) e) ∙ first in absurd (omega arith)

-- no zero comes first
pub no_zero : (text : List ℕ) (n : ℕ) → n < 2 ^ 64 → text ≡ decimal n → 1 < length text → get_or text 0 0 ≡ 48 → ⊥
no_zero text n small e long first =
    let is = first_digit text n small e first in
    let one : length text ≡ 1 = ap length (e ∙ ap decimal is ∙ decimal_digit 0 (omega arith)) in omega arith

pub number_found : {E : Type 0} (text : List ℕ) (r : Result ℕ E) (o : Option ℕ) → ParsesUnsigned 64 10 text r → AllByRecursion IsAsciiDigit text → ((1 < length text) × (get_or text 0 0 ≡ 48) → ⊥)
    → o ≡ result_ok r → IfSome o (λ n. (n < 2 ^ 64) × (text ≡ decimal n))
number_found {E} text (Ok n) o parses digits front e =
    let ok = parse_digits own {E = E} 64 text (Ok n) parses digits in
    let lead : get_or text 0 0 ≡ 48 → length text ≡ 1 = λ first. elim (cases_lt 1 (length text)) [ inl long ↦ absurd (front (long, first)) | inr short ↦ let some = ok.0.0 in omega arith ] in
    subst (λ p. IfSome p (λ n. (n < 2 ^ 64) × (text ≡ decimal n))) (sym e)
    (subst (λ m. m < 2 ^ 64) (sym ok.1) ok.0.1, sym (decimal-digits_value own text digits ok.0.0 lead ok.0.1) ∙ ap decimal (sym ok.1))
number_found {E} text (Err x) o parses digits front e = subst (λ p. IfSome p (λ n. (n < 2 ^ 64) × (text ≡ decimal n))) (sym e) tt

pub number_only : {E : Type 0} (text : List ℕ) (r : Result ℕ E) (o : Option ℕ) → ParsesUnsigned 64 10 text r → o ≡ result_ok r → (n : ℕ) → n < 2 ^ 64 → text ≡ decimal n → o ≡ Some n
number_only {E} text r o parses e n small is = e ∙ ap result_ok (parse-decimal {E = E} 64 n text r small small is parses)

digit_below : (text : List ℕ) → AreDigits text → (k : ℕ) → k < length text → get_or text k 0 < 128
digit_below [] digits k lt = absurd (omega arith)
digit_below (c ∷ cs) digits zero lt = let top = digits.0.1 in omega arith
digit_below (c ∷ cs) digits (suc k) lt = digit_below cs digits.1 k (omega arith)

pub digits_utf8 : (text : List ℕ) → AllByRecursion IsAsciiDigit text → IsUtf8 text
digits_utf8 text digits = IsUtf8-from_ascii text (IsAscii-from_reads text (length text) (omega arith) (λ k lt. digit_below text digits k lt))
