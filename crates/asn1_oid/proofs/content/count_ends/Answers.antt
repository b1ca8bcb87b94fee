use Rattle.std.proofs.Common.{◌≡◌, ◌∙◌, rules}
use Rattle.std.specs.Prelude.{nat_lt, count_by}
use Rattle.asn1_oid.proofs.Steps.{length-numbers_after}
use Rattle.asn1_oid.proofs.content.count_ends.Goals as goal

pub returns : goal.returns
returns c =
    let counted : c.count.result ≡ count_by (λ octet. nat_lt octet 128) c.args.octets.now = search rules in
    counted ∙ length-numbers_after 0 c.args.octets.now
