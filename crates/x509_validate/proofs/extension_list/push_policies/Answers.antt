use Rattle.std.proofs.Common.{rules, ◌≡◌, ◌∙◌, ◌+◌, ◌∷◌, ◌++◌, [], ap, subst, codes, drop, get_or, map}
use Rattle.std.proofs.lemmas.List.{drop_more}
use Rattle.x509_validate.specs.Before.{Left}
use Rattle.x509_validate.specs.Repeats.{repeat_messages}
use Rattle.x509_validate.specs.View.{message_view}
use Rattle.x509_validate.proofs.extension_list.push_policies.Goals as goal

pub loop-policy-preserved : goal.loop-policy-preserved
loop-policy-preserved c =
    let xs = c.args.policies.now in
    let k = c.loop-policy.policy-index in
    let x = c.policy-item.result in
    let here : get_or xs k x ≡ x = search rules in
    let step : drop k xs ≡ x ∷ drop (k + 1) xs = drop_more xs k x c.loop-policy-test.true ∙ ap (λ z. z ∷ drop (k + 1) xs) here in
    let text = codes "Certificate Policies: duplicate policy " in
    let whole = map message_view c.args.said.now.items ++ repeat_messages text [] (map (λ p. p.policy_id) xs) in
    c.in_ok-push_repeat.ensures whole (map (λ p. p.policy_id) (drop (k + 1) xs))
    (subst (λ z. Left text whole (map message_view c.loop-policy.said.items) c.loop-policy.seen (map (λ p. p.policy_id) z)) step c.loop-policy.invariant)
