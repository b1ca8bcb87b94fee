use Rattle.std.proofs.Common.{◌≡◌, ◌∙◌, ap, take, arith}
use Rattle.std.proofs.lemmas.List.{take_all}
use Rattle.cert_judge.specs.Copies.{octets_at}
use Rattle.cert_judge.proofs.copies.octets_of.Goals as goal

pub returns : goal.returns
returns c =
    let whole : take c.loop-place.place-index c.args.places.now ≡ c.args.places.now = take_all c.loop-place.place-index c.args.places.now (omega arith) in
    c.loop-place.invariant ∙ ap (octets_at c.args.items.now) whole
