use Rattle.std.proofs.Common.{[], ◌∷◌, lit<, refl}
use Rattle.laws_asn1.proofs.OfLists.{ascending, permuted}
use Rattle.laws_asn1.proofs.lists.example_of_sets.Goals as goal

pub returns-clause-encodings : goal.returns-clause-encodings
returns-clause-encodings c = record { moves = (0, 1) ∷ []; below = (lit< tt, lit< tt, tt); is = refl }

pub returns-clause-one : goal.returns-clause-one
returns-clause-one c = (ascending, ascending, permuted)
