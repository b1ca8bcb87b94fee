use Rattle.certpath_why.proofs.why.push_why.Goals as goal

pub push_why_by-requires : goal.push_why_by-requires
push_why_by-requires g c = λ key item v. v
