-- What is said of names, over the values of types (to read contracts with).
use Rattle.std.specs.Prelude.{List, [], ◌∷◌, ◌++◌}
use Rattle.x509_names.specs.View.{attribute_view}
use Rattle.x509_names.specs.declared.attribute.AttributeTypeAndValue.{AttributeTypeAndValue}
use Rattle.x509_validate.specs.Messages.{Message}
use Rattle.x509_validate.specs.Names.{attribute_messages}

abbrev pub said_of_attributes : List AttributeTypeAndValue → List Message
said_of_attributes [] = []
said_of_attributes (a ∷ others) = attribute_messages (attribute_view a) ++ said_of_attributes others
