use Rattle.std.specs.List.{Contains}
use Rattle.std.proofs.Common.{ℕ, map, take}
use Rattle.cert_judge.specs.Items.{item_of}
use Rattle.certpath_why.specs.Reached.{IsCertificateAt}
use Rattle.certpath_why.specs.RevokingRows.{AreNumbered, HasNumber}
use Rattle.certpath_why.specs.SerialRows.{AreSerialRows}
use Rattle.certpath_why.proofs.revoking.RevokingRows.new.Given as goal

abbrev pub invariant-loop-place : goal.invariant-loop-place
invariant-loop-place l =
    AreSerialRows l.found.items.now l.policy.moment l.serials
    × AreNumbered l.found.items.now l.policy.moment l.serials.rows.items l.numbers
    × (IsCertificateAt (map item_of l.found.items.now) l.target → HasNumber l.numbers l.target)
    × ((p : ℕ) → Contains (take l.place-index l.further) p → HasNumber l.numbers p)
