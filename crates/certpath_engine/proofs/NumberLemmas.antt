-- What `parse` returns for a text of digits, in the words of `WritesNumber`.
use Rattle.std.proofs.Common.{◌≡◌, ◌≢◌, ℕ, ◌-◌, ◌<◌, ◌^◌, List, [], ◌∷◌, length, map, Option, Some, Result, Ok, Err, IfSome, refl, sym, ap, ◌∙◌, subst, arith, rules}
use Rattle.std.proofs.lemmas.Str.Parse.{IsNumeralModel, numerals_by_fold, parse_digits}
use Rattle.std.specs.Char.{IsAsciiDigit}
use Rattle.std.specs.Int.Digits.{number_from_digits_after}
use Rattle.std.specs.List.{AllByRecursion}
use Rattle.std.specs.Result.{result_ok}
use Rattle.std.specs.Str.Parse.{ParsesUnsigned}
use Rattle.certpath_engine.specs.Numbers.{WritesNumber}

abbrev number_after : ℕ → List ℕ → ℕ
number_after n cs = number_from_digits_after 10 n (map (λ c. c - 48) cs)

own : IsNumeralModel (AllByRecursion IsAsciiDigit) (number_after 0)
own = numerals_by_fold (AllByRecursion IsAsciiDigit) (search rules) number_after (search rules)

some_length : (text : List ℕ) → text ≢ [] → 0 < length text
some_length [] some = absurd (some refl)
some_length (c ∷ cs) some = omega arith

no_length : (text : List ℕ) → 0 < length text → text ≢ []
no_length text some e = let none : length text ≡ 0 = ap length e in absurd (omega arith)

pub number_found : {E : Type 0} (text : List ℕ) (r : Result ℕ E) (o : Option ℕ) → ParsesUnsigned 32 10 text r → AllByRecursion IsAsciiDigit text
    → o ≡ result_ok r → IfSome o (λ n. WritesNumber text n)
number_found {E} text (Ok n) o parses digits e =
    let ok = parse_digits own {E = E} 32 text (Ok n) parses digits in
    subst (λ p. IfSome p (λ n. WritesNumber text n)) (sym e) (record { some = no_length text ok.0.0; digits = digits; value = sym ok.1 })
number_found {E} text (Err x) o parses digits e = subst (λ p. IfSome p (λ n. WritesNumber text n)) (sym e) tt

pub number_only : {E : Type 0} (text : List ℕ) (r : Result ℕ E) (o : Option ℕ) → ParsesUnsigned 32 10 text r → o ≡ result_ok r
    → (n : ℕ) → n < 2 ^ 32 → WritesNumber text n → o ≡ Some n
number_only {E} text (Ok m) o parses e n small w = let ok = parse_digits own {E = E} 32 text (Ok m) parses w.digits in e ∙ ap Some (ok.1 ∙ w.value)
number_only {E} text (Err x) o parses e n small w =
    let not_ok = parse_digits own {E = E} 32 text (Err x) parses w.digits in
    absurd (not_ok (some_length text w.some, subst (λ m. m < 2 ^ 32) (sym w.value) small))
