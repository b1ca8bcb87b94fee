use Rattle.std.proofs.Common.{arith}
use Rattle.asn1_core.proofs.Numbers.{octets_below}
use Rattle.x509_names.proofs.KeyLaws.{key_given, key_told}
use Rattle.x509_names.specs.View.{public_key_view}
use Rattle.x509_names.proofs.public_key.key_value.Goals as goal

pub returns-clause-found : goal.returns-clause-found
returns-clause-found c =
    key_given public_key_view c.args.identifier.now c.args.octets.now c.kind_of.result (octets_below c.args.octets.now (λ k. omega (arith, c.type_inv.octets k))) c.kind_of.ensures

pub returns-clause-only : goal.returns-clause-only
returns-clause-only c = λ v is.
    key_told public_key_view c.args.identifier.now c.args.octets.now c.kind_of.result v (octets_below c.args.octets.now (λ k. omega (arith, c.type_inv.octets k))) c.kind_of.ensures is
