use Rattle.std.proofs.Common.{◌≡◌, ◌∙◌, ap, arith}
use Rattle.asn1_core.proofs.Numbers.{octets_below}
use Rattle.asn1_values.specs.Readers.{unsigned_at}
use Rattle.x509_names.proofs.KeyLaws.{exponent_read}
use Rattle.x509_names.proofs.public_key.exponent_of.Goals as goal

pub returns-in-Err-clause-only : goal.returns-in-Err-clause-only
returns-in-Err-clause-only c = λ n is.
    let content = c.args.content.now in
    let read = exponent_read content n (octets_below content (λ k. omega (arith, c.type_inv.content k))) is in
    let same : unsigned_at 64 c.new.result.content.now ≡ unsigned_at 64 content = ap (λ b. unsigned_at 64 b.now) c.new.ensures in
    let told = c.in-Err.ensures.exact ∙ same ∙ read in
    cc
