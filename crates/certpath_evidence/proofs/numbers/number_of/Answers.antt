use Rattle.std.proofs.Common.{ℕ, List, subst}
use Rattle.std.specs.Char.{IsAsciiDigit}
use Rattle.std.specs.List.{AllByRecursion}
use Rattle.std.specs.Str.Parse.{ParsesUnsigned}
use Rattle.certpath_evidence.proofs.NumberFacts.{digits_of, no_zero, number_found, number_only}
use Rattle.certpath_evidence.proofs.numbers.number_of.Goals as goal

pub returns-in_err-digits-clause-only : goal.returns-in_err-digits-clause-only
returns-in_err-digits-clause-only c = λ n small e. let some = c.in_err-digits.ensures.only (digits_of c.args.octets.now n small e) in cc

pub returns-then-has_zero_in_front-clause-only : goal.returns-then-has_zero_in_front-clause-only
returns-then-has_zero_in_front-clause-only c = λ n small e. let zero = c.has_zero_in_front.ensures.0 c.if-has_zero_in_front.true in absurd (no_zero c.args.octets.now n small e zero.0 zero.1)

pub returns-clause-found : goal.returns-clause-found
returns-clause-found c =
    let octets = c.args.octets.now in
    let is = c.in_ok-digits.ensures.found in
    let parses = subst (λ (t : List ℕ). ParsesUnsigned 64 10 t c.parse.result) is c.parse.ensures.value.0 in
    let digits = subst (λ (t : List ℕ). AllByRecursion IsAsciiDigit t) is c.in_ok-digits.ensures.digits in
    number_found octets c.parse.result c.ok.result parses digits (λ z. let t = c.has_zero_in_front.ensures.1 z in let f = c.if-has_zero_in_front.false in cc) c.ok.ensures.value

pub returns-clause-only : goal.returns-clause-only
returns-clause-only c =
    let is = c.in_ok-digits.ensures.found in
    let parses = subst (λ (t : List ℕ). ParsesUnsigned 64 10 t c.parse.result) is c.parse.ensures.value.0 in
    number_only c.args.octets.now c.parse.result c.ok.result parses c.ok.ensures.value
