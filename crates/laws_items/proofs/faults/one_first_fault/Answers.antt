use Rattle.laws_items.proofs.OfFaults.{serial_is_first, cut_is_first, missing_is_first}
use Rattle.laws_items.proofs.OneFault.{one_fault}
use Rattle.laws_items.proofs.faults.one_first_fault.Goals as goal

pub returns : goal.returns
returns c = record {
  one = one_fault;
  example = serial_is_first;
  example_of_elements = cut_is_first;
  example_of_missing = missing_is_first;
}
