use Rattle.std.proofs.Common.{◌≡◌}
use Rattle.cert_judge.specs.Items.{IsListWith}
use Rattle.cert_reasons.specs.Listed.{HasSerial, HasSerialAt}
use Rattle.cert_reasons.specs.Rows.{HasRow}
use Rattle.cert_reasons.proofs.Marks.{there_at}
use Rattle.cert_reasons.proofs.Rowing.{added_as}
use Rattle.cert_reasons.proofs.rows.add_at.Goals as goal

pub returns : goal.returns
returns c = λ s p.
    let l = c.in-Some.ensures.lookup in
    let items = c.args.items.now in
    let item = c.in-Some.item.now in
    let there = there_at items c.args.place item l.3.0 l.1 (IsListWith (HasSerial s)) in
    added_as (HasRow c.args.rows.now s p) (HasRow c.add_item.new.rows s p) (c.args.place ≡ p) (IsListWith (HasSerial s) item) (HasSerialAt items s c.args.place) there (c.in_ok-add_item.ensures s p)
