-- What a number on the command line means.
use Rattle.std.specs.Prelude.{◌≡◌, ◌≢◌, ℕ, ◌-◌, List, [], map}
use Rattle.std.specs.Char.{IsAsciiDigit}
use Rattle.std.specs.Int.Digits.{number_from_digits}
use Rattle.std.specs.List.{AllByRecursion}

-- one or more decimal digits of ASCII ('0', which is 48, to '9'), the highest first, write n; zeros may lead
pub record WritesNumber (text : List ℕ) (n : ℕ) : Type 0 where
  pub some : text ≢ []
  pub digits : AllByRecursion IsAsciiDigit text
  pub value : number_from_digits 10 (map (λ c. c - 48) text) ≡ n
