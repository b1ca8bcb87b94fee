use Rattle.asn1_core.proofs.Numbers.{octets_below}
use Rattle.std.proofs.Common.{arith}
use Rattle.x509_core.proofs.Told.{header_told}
use Rattle.x509_core.proofs.elements.front_header.Goals as goal

pub returns-in-Err-clause-read : goal.returns-in-Err-clause-read
returns-in-Err-clause-read c =
    header_told c.args.i.now c.in-Err.refusal c.convert.result (octets_below c.args.i.now (λ k. omega (arith, c.type_inv.i k))) c.in-Err.ensures.exact c.convert.ensures
