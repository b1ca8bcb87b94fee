use Rattle.std.proofs.Common.{rules, ◌≡◌, ◌∙◌, ◌∷◌, sym, subst, map}
use Rattle.x509_validate.specs.Before.{Left}
use Rattle.x509_validate.specs.View.{message_view}
use Rattle.x509_validate.proofs.RepeatFacts.{anew}
use Rattle.x509_validate.proofs.repeats.push_repeat.Goals as goal

pub returns-in_ok-insert : goal.returns-in_ok-insert
returns-in_ok-insert c = λ whole rest p.
    let same : c.args.oid.now ≡ c.as_bytes-octets.result.now = search rules in
    anew c.args.text.now whole (map message_view c.args.said.now.items) c.args.seen.now c.insert.new.self c.as_bytes-octets.result rest
    (subst (λ z. Left c.args.text.now whole (map message_view c.args.said.now.items) c.args.seen.now (z ∷ rest)) same p) (sym c.contains.ensures ∙ c.if-contains.false)
    (λ q. c.in_ok-insert.ensures.updates.0 q)
