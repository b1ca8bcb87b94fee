use Rattle.std.proofs.Common.{ℕ, ◌-◌, ◌∷◌, length, take, drop, ap, ◌∙◌, inr, arith}
use Rattle.std.proofs.lemmas.Result.{err_from_is_err_and}
use Rattle.asn1_oid.specs.Identifier.{content_octets}
use Rattle.asn1_oid.proofs.SpelledComponents.{joined_can, joined_spells}
use Rattle.asn1_oid.proofs.spell.spell.Goals as goal

pub returns-clause-made : goal.returns-clause-made
returns-clause-made c =
    let xs = c.args.components.now in
    let two = c.in-len2-up.len_at_least in
    let join = c.in-Some.ensures in
    let can = joined_can xs two c.type_inv.components join.0.0 join.0.1 join.0.2 in
    joined_spells xs c.in_ok-octets.octets.items can two (omega arith)
    (c.in_ok-octets.ensures ∙ ap (λ (n : ℕ). content_octets (n ∷ take (length xs - 2) (drop 2 xs))) join.1)

pub returns-in_err-octets-clause-refused : goal.returns-in_err-octets-clause-refused
returns-in_err-octets-clause-refused c =
    let join = c.in-Some.ensures in
    let can = joined_can c.args.components.now c.in-len2-up.len_at_least c.type_inv.components join.0.0 join.0.1 join.0.2 in
    let p = err_from_is_err_and c.from_residual.result c.from_residual.ensures.1 in
    rw p.1 (inr (can, p.2))
