use Rattle.std.proofs.Common.{◌∙◌, ap, sym, subst, ◌++◌}
use Rattle.certpath_why.specs.RevokingRows.{ArePlacesOf}
use Rattle.certpath_why.proofs.revoking.lists_of.Goals as goal

pub returns : goal.returns
returns c =
    let are = rw (c.in_ok-linking.ensures.items, c.in_ok-linking.ensures.certificate, c.in_ok-linking.ensures.policy) at c.revoking.ensures in
    subst (ArePlacesOf c.args.found.now.items.now c.args.policy.now.moment c.args.certificate.now) (sym (c.in_ok-extend_from_slice.ensures.items ∙ ap (λ l. l ++ c.revoking.result.now) c.new-row.ensures.items)) are
