use Rattle.std.proofs.Common.{ℕ, ◌+◌, ◌/◌, ◌%◌, ◌<◌, List, [], ◌∷◌, ◌++◌, sym, ap, ◌∙◌, append_assoc, arith}
use Rattle.std.specs.Int.Digits.{digits_of}
use Rattle.asn1_oid.specs.Spelling.{high}
use Rattle.asn1_oid.proofs.Subidentifiers.{high-digits_of}
use Rattle.asn1_oid.proofs.spell.+push_high.Goals as goal

pub returns : goal.returns
returns t c =
    let old = c.args.octets.now.items in
    let digit = (128 + c.args.number % 128) ∷ [] in
    let some : 0 < c.args.number = omega arith in
    c.in_ok-push.ensures.items ∙ ap (λ (l : List ℕ). l ++ digit) c.in_ok-push_high.ensures ∙ append_assoc old (high (digits_of 128 (c.args.number / 128))) digit
    ∙ ap (λ (l : List ℕ). old ++ l) (sym (high-digits_of c.args.number some))
