use Rattle.std.proofs.Common.{lit<}
use Rattle.laws_items.proofs.fields.example_of_a_wrapper.Goals as goal

pub returns : goal.returns
returns c = lit< tt
