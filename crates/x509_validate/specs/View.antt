-- What the values of this crate's types are.
use Rattle.std.specs.Prelude.{string_bytes}
use Rattle.x509_validate.specs.Messages as messages
use Rattle.x509_validate.specs.declared.message.Weight.{Weight}
use Rattle.x509_validate.specs.declared.message.Weight.TheVariants as weights
use Rattle.x509_validate.specs.declared.message.Message.{Message}

abbrev pub weight_view : Weight → messages.Weight
weight_view weights.Warning = messages.warning
weight_view weights.Fault = messages.fault
weight_view weights.Fatal = messages.fatal

abbrev pub message_view : Message → messages.Message
message_view m = record { weight = weight_view m.weight; text = string_bytes m.text }
