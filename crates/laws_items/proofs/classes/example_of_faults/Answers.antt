use Rattle.laws_items.proofs.OfClasses.{empty_is_object, no_certificate, no_list}
use Rattle.laws_items.proofs.classes.example_of_faults.Goals as goal

pub returns-clause-certificate : goal.returns-clause-certificate
returns-clause-certificate c = (empty_is_object, no_certificate)

pub returns-clause-list : goal.returns-clause-list
returns-clause-list c = (empty_is_object, no_list)
