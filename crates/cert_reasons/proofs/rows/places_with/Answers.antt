use Rattle.cert_reasons.proofs.Rowed.{rows_sound, rows_complete, rows_ascend}
use Rattle.cert_reasons.proofs.rows.places_with.Goals as goal

pub returns-clause-ascends : goal.returns-clause-ascends
returns-clause-ascends c = rw c.in_ok-found.ensures.found (rows_ascend c.args.serial.now _ c.args.rows.now.keys c.in_ok-found.ensures.ordered)

pub returns-clause-sound : goal.returns-clause-sound
returns-clause-sound c = rw c.in_ok-found.ensures.found (λ p h. rows_sound c.args.serial.now _ p c.args.rows.now.keys h)

pub returns-clause-complete : goal.returns-clause-complete
returns-clause-complete c = rw c.in_ok-found.ensures.found (λ p le h. rows_complete c.args.serial.now _ p c.args.rows.now.keys le h)
