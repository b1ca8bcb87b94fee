use Rattle.std.proofs.Common.{refl}
use Rattle.laws_judge.proofs.OfPathLengths.{hand_limits, hand_path, length_zero, not_unlimited}
use Rattle.laws_judge.proofs.path_lengths.example_of_limits_by.Goals as goal

pub returns-clause-has_zero : goal.returns-clause-has_zero
returns-clause-has_zero c = length_zero

pub returns-clause-limits : goal.returns-clause-limits
returns-clause-limits c = hand_limits

pub returns-clause-other : goal.returns-clause-other
returns-clause-other c = (refl, refl)

pub returns-clause-path : goal.returns-clause-path
returns-clause-path c = hand_path

pub returns-clause-unlimited : goal.returns-clause-unlimited
returns-clause-unlimited c = not_unlimited
