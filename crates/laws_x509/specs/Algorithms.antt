-- An algorithm with parameters: it tries the laws' definitions, not the code.
use Rattle.std.specs.Prelude.{Some}
use Rattle.x509_names.specs.Fields.{Algorithm}
use Rattle.x509_algorithms.specs.Examples.{nothing_element, rsassa_pss}

abbrev pub pss : Algorithm
pss = record { identifier = rsassa_pss; parameters = Some nothing_element }
