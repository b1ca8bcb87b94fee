use Rattle.rows_check.proofs.vouching.VouchedPairsVouch.vouches.Goals as goal

pub returns : goal.returns
returns c = let h = rw c.deref.ensures.value at c.are_vouched.ensures in h
