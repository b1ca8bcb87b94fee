use Rattle.certpath_why.proofs.why.push_why_for.Goals as goal

pub push_why_by-requires : goal.push_why_by-requires
push_why_by-requires g c = rw (c.new-restricted.ensures.vouch, c.new-processing.ensures.vouch) (λ key item v. v.0)
