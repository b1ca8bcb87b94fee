use Rattle.std.proofs.Common.{length, sym, ap, ap₂, ◌∙◌}
use Rattle.std.specs.Cmp.{nat_cmp_is}
use Rattle.std.specs.Cmp.Lexicographic.{slice_cmp}
use Rattle.std.specs.Ordering.{nat_cmp}
use Rattle.asn1_unsigned.specs.Numbers.{number_of}
use Rattle.asn1_unsigned.proofs.Compared.{as_long, longer, same_by_cmp}
use Rattle.asn1_unsigned.proofs.compare.UnsignedBytesOrd.cmp.Goals as goal

pub returns-in-Equal : goal.returns-in-Equal
returns-in-Equal c =
    let left = c.as_bytes-left.ensures.shortest in
    let right = c.as_bytes-right.ensures.shortest in
    let long = same_by_cmp (length c.as_bytes-left.result.now) (length c.as_bytes-right.result.now) (sym c.in-Equal.is ∙ c.cmp.ensures) in
    c.cmp-in-Equal.ensures ∙ ap₂ (slice_cmp nat_cmp) left right
    ∙ as_long (number_of c.args.self.now) (number_of c.args.other.now) (sym (ap length left) ∙ long ∙ ap length right)

pub returns-in_default : goal.returns-in_default
returns-in_default c =
    let left = ap length c.as_bytes-left.ensures.shortest in
    let right = ap length c.as_bytes-right.ensures.shortest in
    c.cmp.ensures ∙ ap₂ nat_cmp left right
    ∙ longer (number_of c.args.self.now) (number_of c.args.other.now)
    (λ long. c.in_default.not-Equal (c.cmp.ensures ∙ sym (nat_cmp_is _ _ _ (left ∙ long ∙ sym right))))
