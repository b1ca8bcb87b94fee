use Rattle.std.proofs.Common.{ℕ, ◌/◌, ◌%◌, List, [], ◌∷◌, ◌++◌, sym, ap, ◌∙◌, append_assoc}
use Rattle.std.specs.Int.Digits.{digits_of}
use Rattle.asn1_oid.specs.Spelling.{high}
use Rattle.asn1_oid.proofs.Subidentifiers.{subidentifier_octets-split}
use Rattle.asn1_oid.proofs.spell.push_subidentifier.Goals as goal

pub returns : goal.returns
returns c =
    let old = c.args.octets.now.items in
    let digit = c.args.number % 128 ∷ [] in
    c.in_ok-push.ensures.items ∙ ap (λ (l : List ℕ). l ++ digit) c.in_ok-push_high.ensures ∙ append_assoc old (high (digits_of 128 (c.args.number / 128))) digit
    ∙ ap (λ (l : List ℕ). old ++ l) (sym (subidentifier_octets-split c.args.number))
