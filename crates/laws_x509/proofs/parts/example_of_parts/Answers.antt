use Rattle.laws_x509.proofs.OfParts.{algorithm_in_range, algorithm_short, day_in_range, key_in_range, key_short, name_in_range, name_short}
use Rattle.laws_x509.proofs.parts.example_of_parts.Goals as goal

pub returns-clause-algorithm : goal.returns-clause-algorithm
returns-clause-algorithm c = (algorithm_in_range, algorithm_short)

pub returns-clause-name : goal.returns-clause-name
returns-clause-name c = (name_in_range, name_short)

pub returns-clause-key : goal.returns-clause-key
returns-clause-key c = (key_in_range, key_short)

pub returns-clause-time : goal.returns-clause-time
returns-clause-time c = day_in_range
