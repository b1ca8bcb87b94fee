-- What was said, and what will be said of the rest, is all.
use Rattle.std.proofs.Common.{◌≡◌, ◌++◌, drop, map}
use Rattle.x509_validate.specs.View.{message_view}
use Rattle.x509_validate.specs.Extensions.{general_names_messages}
use Rattle.x509_validate.proofs.extensions.push_general_names.Given as goal

abbrev pub invariant-loop-name : goal.invariant-loop-name
invariant-loop-name l = map message_view l.said.items ++ general_names_messages (drop l.name-index l.fn.names) ≡ map message_view l.initial.said.items ++ general_names_messages l.fn.names
