use Rattle.std.proofs.Common.{◌≡◌}
use Rattle.cert_judge.specs.Items.{IsListWith}
use Rattle.cert_reasons.specs.Listed.{HasSerial}
use Rattle.cert_reasons.specs.Rows.{HasRow}
use Rattle.cert_reasons.proofs.Rowing.{none_added, no_list}
use Rattle.cert_reasons.proofs.rows.add_item.Goals as goal

pub returns-in_default : goal.returns-in_default
returns-in_default c = λ s p.
    let item = c.args.item.now in
    none_added (HasRow c.args.rows.now s p) (IsListWith (HasSerial s) item) (c.args.place ≡ p) (no_list (HasSerial s) item c.in_default.not-List)
