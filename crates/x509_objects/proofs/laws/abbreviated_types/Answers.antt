use Rattle.x509_objects.specs.Table.{abbreviations}
use Rattle.x509_objects.proofs.TableLaws.{row_found, row_only, abbreviations_distinct}
use Rattle.x509_objects.proofs.laws.abbreviated_types.Goals as goal

pub returns : goal.returns
returns c = λ id told. (row_found abbreviations id told, row_only abbreviations id told abbreviations_distinct)
