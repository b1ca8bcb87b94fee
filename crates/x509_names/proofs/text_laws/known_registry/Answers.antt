use Rattle.std.proofs.Common.{ap}
use Rattle.x509_names.specs.NameTexts.{name_text}
use Rattle.x509_objects.specs.Registry.{name_or}
use Rattle.x509_objects.specs.Table.{abbreviation_of}
use Rattle.x509_names.proofs.text_laws.known_registry.Goals as goal

pub returns : goal.returns
returns c = λ r given n. ap (λ label. name_text label n) (λ i id. name_or (abbreviation_of id) (given id i))
