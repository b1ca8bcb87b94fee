use Rattle.cert_vouchers.specs.Vouching.{VouchesBy}
use Rattle.cert_vouchers.proofs.EachRow.{SiftedRows}
use Rattle.cert_vouchers.proofs.lookup.rows_of.Given as goal

abbrev pub invariant-loop-place : goal.invariant-loop-place
invariant-loop-place g l = SiftedRows (VouchesBy l.pairs) l.keys l.items l.chosen l.place-index l.rows.items
