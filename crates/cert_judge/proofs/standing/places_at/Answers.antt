use Rattle.std.proofs.Common.{◌≡◌, ◌∙◌, ap, take, arith}
use Rattle.std.proofs.lemmas.List.{take_all}
use Rattle.cert_judge.specs.Copies.{places_at}
use Rattle.cert_judge.proofs.standing.places_at.Goals as goal

pub returns : goal.returns
returns c =
    let whole : take c.loop-number.number-index c.args.numbers.now ≡ c.args.numbers.now = take_all c.loop-number.number-index c.args.numbers.now (omega arith) in
    c.loop-number.invariant ∙ ap (places_at c.args.firsts.now) whole
