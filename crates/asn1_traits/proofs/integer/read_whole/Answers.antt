use Rattle.std.proofs.Common.{rules, arith, ◌≡◌, ◌∷◌, inr}
use Rattle.asn1_traits.proofs.Wholes.{spelled, size_twos}
use Rattle.asn1_traits.proofs.integer.read_whole.Goals as goal

pub returns-in-Some-read_size : goal.returns-in-Some-read_size
returns-in-Some-read_size c =
    let e : c.args.octets.now ≡ c.in-Some.first.now ∷ c.in-Some.field-0-1.now = search rules in
    spelled c.args.octets.now c.in-Some.first.now c.in-Some.field-0-1.now c.in-Some-read_size.size e c.in-Some-read_size.ensures.1

pub returns-in-None : goal.returns-in-None
returns-in-None c =
    let e : c.args.octets.now ≡ c.in-Some.first.now ∷ c.in-Some.field-0-1.now = search rules in
    (λ h. cc, inr (omega (arith, c.in-None.ensures, size_twos c.args.octets.now c.in-Some.first.now c.in-Some.field-0-1.now e)))
