use Rattle.std.proofs.Common.{rules, ◌≡◌, Some, None}
use Rattle.cert_model.specs.View.{any_view, ext_view}
use Rattle.cert_model.specs.Reads.{list_at, extension_at}
use Rattle.certcheck.specs.Windows.{trees_in, tree_of}
use Rattle.certcheck.proofs.EachPart.{part_read, parts_read, part_refused}
use Rattle.certcheck.proofs.extensions.each_extension.Goals as goal

pub loop-part-preserved : goal.loop-part-preserved
loop-part-preserved c =
    let t = tree_of (any_view c.in-Some.part) in
    let e : Some (ext_view c.in_ok-extension.extension) ≡ extension_at t = search rules in
    part_read ext_view extension_at c.loop-part.extensions.items _ c.in_ok-extension.extension (trees_in c.loop-part.rest.now) (trees_in c.in-Some.after.now) t (list_at extension_at (trees_in c.args.parts.now))
    c.in-Some.ensures.trees e c.in_ok-push.ensures.items c.loop-part.invariant

pub returns-in_err-extension : goal.returns-in_err-extension
returns-in_err-extension c =
    let t = tree_of (any_view c.in-Some.part) in
    let stopped : None ≡ extension_at t → None ≡ list_at extension_at (trees_in c.args.parts.now) = λ n.
    part_refused ext_view extension_at c.loop-part.extensions.items (trees_in c.loop-part.rest.now) (trees_in c.in-Some.after.now) t _ c.in-Some.ensures.trees n c.loop-part.invariant in
    search (rules, stopped)

pub returns : goal.returns
returns c = parts_read ext_view extension_at c.loop-part.extensions.items (trees_in c.loop-part.rest.now) _ c.in_default.ensures.trees c.loop-part.invariant
