use Rattle.std.proofs.Common.{◌++◌, [], codes, drop, map}
use Rattle.x509_validate.specs.View.{message_view}
use Rattle.x509_validate.specs.Repeats.{repeat_messages}
use Rattle.x509_validate.specs.Before.{Left}
use Rattle.x509_validate.proofs.extension_list.push_duplicates.Given as goal

abbrev pub invariant-loop-extension : goal.invariant-loop-extension
invariant-loop-extension l =
    Left (codes "Duplicate extension ") (map message_view l.initial.said.items ++ repeat_messages (codes "Duplicate extension ") [] (map (λ p. p.oid) l.fn.extensions))
    (map message_view l.said.items) l.seen (map (λ p. p.oid) (drop l.extension-index l.fn.extensions))
