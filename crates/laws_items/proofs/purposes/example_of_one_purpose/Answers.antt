use Rattle.std.proofs.Common.{refl}
use Rattle.laws_items.proofs.purposes.example_of_one_purpose.Goals as goal

pub returns : goal.returns
returns c = refl
