use Rattle.laws_items.proofs.OfFields.{list_below, list_in_range, list_is_item, list_short}
use Rattle.laws_items.proofs.fields.example_of_a_list.Goals as goal

pub returns : goal.returns
returns c = (list_in_range, list_below, list_short, list_is_item)
