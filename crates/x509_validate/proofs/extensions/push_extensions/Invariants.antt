-- What was said, and what will be said of the rest, is all.
use Rattle.std.proofs.Common.{◌≡◌, ◌++◌, drop, map}
use Rattle.x509_validate.specs.View.{message_view}
use Rattle.x509_validate.specs.Extensions.{each_extension}
use Rattle.x509_validate.proofs.extensions.push_extensions.Given as goal

abbrev pub invariant-loop-extension : goal.invariant-loop-extension
invariant-loop-extension l = map message_view l.said.items ++ each_extension (drop l.extension-index l.fn.extensions) ≡ map message_view l.initial.said.items ++ each_extension l.fn.extensions
