use Rattle.std.proofs.Common.{rules, ◌≡◌, ◌∙◌, ◌+◌, ◌∷◌, ◌++◌, [], ap, subst, codes, drop, get_or, map}
use Rattle.std.proofs.lemmas.List.{drop_more}
use Rattle.x509_validate.specs.Before.{Left}
use Rattle.x509_validate.specs.Repeats.{repeat_messages}
use Rattle.x509_validate.specs.View.{message_view}
use Rattle.x509_validate.proofs.extension_list.push_duplicates.Goals as goal

pub loop-extension-preserved : goal.loop-extension-preserved
loop-extension-preserved c =
    let xs = c.args.extensions.now in
    let k = c.loop-extension.extension-index in
    let x = c.extension-item.result in
    let here : get_or xs k x ≡ x = search rules in
    let step : drop k xs ≡ x ∷ drop (k + 1) xs = drop_more xs k x c.loop-extension-test.true ∙ ap (λ z. z ∷ drop (k + 1) xs) here in
    let text = codes "Duplicate extension " in
    let whole = map message_view c.args.said.now.items ++ repeat_messages text [] (map (λ p. p.oid) xs) in
    c.in_ok-push_repeat.ensures whole (map (λ p. p.oid) (drop (k + 1) xs))
    (subst (λ z. Left text whole (map message_view c.loop-extension.said.items) c.loop-extension.seen (map (λ p. p.oid) z)) step c.loop-extension.invariant)
