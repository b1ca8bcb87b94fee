use Rattle.std.proofs.Common.{◌++◌, [], codes, drop, map}
use Rattle.x509_validate.specs.View.{message_view}
use Rattle.x509_validate.specs.Repeats.{repeat_messages}
use Rattle.x509_validate.specs.Before.{Left}
use Rattle.x509_validate.proofs.extension_list.push_policies.Given as goal

abbrev pub invariant-loop-policy : goal.invariant-loop-policy
invariant-loop-policy l =
    Left (codes "Certificate Policies: duplicate policy ") (map message_view l.initial.said.items ++ repeat_messages (codes "Certificate Policies: duplicate policy ") [] (map (λ p. p.policy_id) l.fn.policies))
    (map message_view l.said.items) l.seen (map (λ p. p.policy_id) (drop l.policy-index l.fn.policies))
