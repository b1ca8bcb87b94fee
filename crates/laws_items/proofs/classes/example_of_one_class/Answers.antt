use Rattle.laws_items.proofs.OfClasses.{null_classed, null_is_other}
use Rattle.laws_items.proofs.classes.example_of_one_class.Goals as goal

pub returns-clause-octets : goal.returns-clause-octets
returns-clause-octets c = null_is_other

pub returns-clause-read : goal.returns-clause-read
returns-clause-read c = null_is_other

pub returns-clause-items : goal.returns-clause-items
returns-clause-items c = null_classed
