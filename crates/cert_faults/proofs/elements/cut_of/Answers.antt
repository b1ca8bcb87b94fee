use Rattle.std.proofs.Common.{ap, arith}
use Rattle.asn1_core.specs.Views.{head_of, size_of}
use Rattle.der_tree.proofs.Cuts.{cut_read}
use Rattle.cert_faults.proofs.elements.cut_of.Goals as goal

pub returns-clause-found : goal.returns-clause-found
returns-clause-found c =
    let m = cut_read (head_of c.in_ok-rest.header) c.args.octets.now c.in_ok-rest.rest.now c.split_at.result.0.now c.split_at.result.1.now c.in-Definite.size c.in_ok-rest.ensures.found (ap size_of c.in-Definite.ensures) (omega arith) (omega arith) c.split_at.ensures.front c.split_at.ensures.back in
    (_, m.0, m.2)
