use Rattle.std.proofs.Common.{◌≡◌, ◌^◌, ◌<◌, length}
use Rattle.std.specs.Int.Digits.{number_from_digits, number_from_digits_after}
use Rattle.der_tree.proofs.numbers.number_of.Given as goal

-- the digits that are left, after the number so far, make the number of all of them
abbrev pub invariant-loop-digit : goal.invariant-loop-digit
invariant-loop-digit l = record {
  small : l.number < 2 ^ 64;
  value : number_from_digits 256 l.content ≡ number_from_digits_after 256 l.number l.rest;
}

abbrev pub decreases-loop-digit : goal.decreases-loop-digit
decreases-loop-digit l = length l.rest
