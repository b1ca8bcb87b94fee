use Rattle.std.proofs.Common.{◌≡◌, ◌++◌, arith, map, subst}
use Rattle.std.specs.Int.Digits.{AllBelowBase}
use Rattle.std.specs.Prelude.{OnOk}
use Rattle.asn1_core.proofs.Numbers.{octets_below}
use Rattle.x509_names.specs.View.{key_view, public_key_view}
use Rattle.x509_validate.specs.View.{message_view}
use Rattle.x509_validate.proofs.KeyFacts.{read_value, read_none}
use Rattle.x509_validate.proofs.key.push_parsed.Goals as goal

pub returns-in-Ok : goal.returns-in-Ok
returns-in-Ok c =
    let below = subst (AllBelowBase 256) c.requires (octets_below c.args.octets.now (λ k. omega (arith, c.type_inv.octets k))) in
    subst (λ z. OnOk c.push_value.result (map message_view c.push_value.new.said.items ≡ map message_view c.args.said.now.items ++ z))
    (read_value (key_view c.args.key.now) (public_key_view c.in-Ok.value) below c.in-Ok.ensures.found) c.push_value.ensures

pub returns-in-Err : goal.returns-in-Err
returns-in-Err c =
    let below = subst (AllBelowBase 256) c.requires (octets_below c.args.octets.now (λ k. omega (arith, c.type_inv.octets k))) in
    subst (λ z. OnOk c.push_text.result (map message_view c.push_text.new.said.items ≡ map message_view c.args.said.now.items ++ z))
    (read_none (key_view c.args.key.now) below (λ v is. c.in-Err.ensures.only v is)) c.push_text.ensures.added
