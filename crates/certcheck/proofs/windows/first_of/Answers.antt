use Rattle.std.proofs.Common.{◌∙◌, sym, ap, ◌++◌, Some, arith}
use Rattle.std.proofs.lemmas.Grind.{common_steps}
use Rattle.asn1_core.specs.Elements.{element_octets}
use Rattle.asn1_core.specs.Views.{head_of}
use Rattle.certcheck.specs.Windows.{trees_in, tree_of}
use Rattle.certcheck.proofs.WindowTrees.{nothing_in, refused_in, short_in, found_in, spelled_in}
use Rattle.certcheck.proofs.windows.first_of.Goals as goal

pub returns-then-is_empty-clause-trees : goal.returns-then-is_empty-clause-trees
returns-then-is_empty-clause-trees c = nothing_in c.args.window.now (grind (arith, common_steps))

pub returns-in_default-clause-trees : goal.returns-in_default-clause-trees
returns-in_default-clause-trees c = refused_in c.args.window.now _ (rw c.in_default.is at c.strict.ensures.exact)

pub returns-then-after-size-clause-trees : goal.returns-then-after-size-clause-trees
returns-then-after-size-clause-trees c =
    let n = c.size_of-size.ensures in
    short_in c.args.window.now (head_of c.in-Ok.header) c.in-Ok.after.now c.in-Ok.ensures.exact (omega arith)

pub returns-clause-trees : goal.returns-clause-trees
returns-clause-trees c =
    let shorter = c.in-Ok.ensures.shorter in
    ap (λ e. Some (tree_of e, trees_in c.split_at.result.1.now)) c.element_with.ensures
    ∙ found_in c.args.window.now (head_of c.in-Ok.header) c.in-Ok.after.now c.split_at.result.0.now c.split_at.result.1.now c.size_of-size.result c.in-Ok.ensures.exact
    (omega arith) c.size_of-size.ensures (omega arith) c.split_at.ensures.front c.split_at.ensures.back

pub returns-clause-octets : goal.returns-clause-octets
returns-clause-octets c =
    spelled_in c.args.window.now (head_of c.in-Ok.header) c.in-Ok.after.now c.split_at.result.0.now c.split_at.result.1.now c.size_of-size.result c.in-Ok.ensures.found.1
    c.size_of-size.ensures (omega arith) c.split_at.ensures.front c.split_at.ensures.back
    ∙ ap (λ e. element_octets e ++ c.split_at.result.1.now) (sym c.element_with.ensures)
