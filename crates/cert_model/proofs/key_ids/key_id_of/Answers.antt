use Rattle.std.proofs.Common.{◌++◌}
use Rattle.cert_model.specs.KeyIds.{key_identifier_octets}
use Rattle.cert_model.proofs.key_ids.key_id_of.Goals as goal

pub returns-in_err-content-clause-only : goal.returns-in_err-content-clause-only
returns-in_err-content-clause-only c = λ id b.
    let x = c.whole.ensures.only (key_identifier_octets id ++ b.0) b.1 in
    let y = rw c.in_err-content.was at x in absurd y

pub returns-in_err-id-clause-only : goal.returns-in_err-id-clause-only
returns-in_err-id-clause-only c = λ id b.
    let x = c.in_ok-content.ensures.only (key_identifier_octets id ++ b.0) b.1 in
    let y = c.part.ensures.only id b.0 x in
    let z = rw c.in_err-id.was at y in absurd z

pub returns-clause-only : goal.returns-clause-only
returns-clause-only c = λ id b.
    let x = c.in_ok-content.ensures.only (key_identifier_octets id ++ b.0) b.1 in
    (c.in_ok-id.ensures.only id b.0 x).0
