use Rattle.cert_judge.specs.Items.{IsListWith}
use Rattle.cert_reasons.specs.Listed.{HasSerial}
use Rattle.cert_reasons.proofs.Marks.{there_at}
use Rattle.cert_reasons.proofs.listed.has_serial_at.Goals as goal

pub returns-in-Some : goal.returns-in-Some
returns-in-Some c =
    let l = c.in-Some.ensures.lookup in
    let v = there_at c.args.items.now c.args.place c.in-Some.item.now l.3.0 l.1 (IsListWith (HasSerial c.args.serial.now)) in
    (λ t. v.0 (c.has_serial.ensures.0 t), λ h. c.has_serial.ensures.1 (v.1 h))
