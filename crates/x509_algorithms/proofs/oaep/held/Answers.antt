use Rattle.std.proofs.Common.{arith}
use Rattle.asn1_core.proofs.Numbers.{octets_below}
use Rattle.x509_core.proofs.Public.{gives_found, gives_only}
use Rattle.x509_algorithms.specs.Parameters.{OaepParts}
use Rattle.x509_algorithms.specs.Reading.{oaep_parts_at}
use Rattle.x509_algorithms.specs.View.{oaep_view}
use Rattle.x509_algorithms.proofs.Laws.{oaep_reading}
use Rattle.x509_algorithms.proofs.oaep.held.Goals as goal

pub returns-clause-found : goal.returns-clause-found
returns-clause-found c =
    gives_found OaepParts oaep_parts_at oaep_reading oaep_view c.args.content.now c.parts.result
    (octets_below c.args.content.now (λ k. omega (arith, c.type_inv.content k))) c.parts.ensures.read

pub returns-clause-only : goal.returns-clause-only
returns-clause-only c =
    gives_only OaepParts oaep_parts_at oaep_reading oaep_view c.args.content.now c.parts.result
    (octets_below c.args.content.now (λ k. omega (arith, c.type_inv.content k))) c.parts.ensures.read
