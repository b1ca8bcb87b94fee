use Rattle.example_path.proofs.verified.VerifiedVouch.vouches.Goals as goal

pub returns : goal.returns
returns c = let h = rw c.deref.ensures.value at c.are_vouched.ensures in h
