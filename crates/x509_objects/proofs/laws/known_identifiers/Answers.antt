use Rattle.x509_objects.specs.Table.{known}
use Rattle.x509_objects.proofs.TableLaws.{row_found, row_only, known_distinct}
use Rattle.x509_objects.proofs.laws.known_identifiers.Goals as goal

pub returns : goal.returns
returns c = λ id told. (row_found known id told, row_only known id told known_distinct)
