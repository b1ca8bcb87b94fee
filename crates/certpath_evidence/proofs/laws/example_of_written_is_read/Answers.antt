use Rattle.std.proofs.Common.{refl, lit<}
use Rattle.std.specs.Fmt.{digits}
use Rattle.certpath_evidence.proofs.laws.example_of_written_is_read.Goals as goal

pub returns-clause-fits : goal.returns-clause-fits
returns-clause-fits c = record { verdicts = (((lit< tt, (lit< tt, tt)), lit< tt), (tt, (tt, tt))); rows = (((lit< tt, lit< tt), ((lit< tt, tt), tt)), (tt, tt)) }

pub returns-clause-text : goal.returns-clause-text
unfolding digits
returns-clause-text c = refl
