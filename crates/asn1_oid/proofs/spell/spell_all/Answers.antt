use Rattle.std.proofs.Common.{ℕ, List, ◌∷◌, ◌++◌, get_or, take, sym, ap, ◌∙◌}
use Rattle.std.proofs.lemmas.Grind.{take_at_read}
use Rattle.asn1_oid.specs.Identifier.{content_octets, subidentifier_octets}
use Rattle.asn1_oid.proofs.Subidentifiers.{content_octets-push}
use Rattle.asn1_oid.proofs.spell.spell_all.Goals as goal

pub loop-number-preserved : goal.loop-number-preserved
loop-number-preserved c =
    let more = c.args.more.now in
    let i = c.loop-number.number-index in
    let longer = (take_at_read more i 0 c.loop-number-test.true).1 in
    c.in_ok-push_subidentifier-2.ensures
    ∙ ap (λ (l : List ℕ). l ++ subidentifier_octets (get_or more i 0)) c.loop-number.invariant
    ∙ sym (content_octets-push (c.args.first ∷ take i more) (get_or more i 0))
    ∙ ap (λ (l : List ℕ). content_octets (c.args.first ∷ l)) (sym longer)
