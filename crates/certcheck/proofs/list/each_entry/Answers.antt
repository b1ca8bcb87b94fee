use Rattle.std.proofs.Common.{rules, ◌≡◌, Some, None}
use Rattle.cert_model.specs.View.{any_view, entry_view}
use Rattle.cert_model.specs.Reads.{list_at}
use Rattle.cert_model.specs.Pieces.{entry_at}
use Rattle.certcheck.specs.Windows.{trees_in, tree_of}
use Rattle.certcheck.proofs.EachPart.{part_read, parts_read, part_refused}
use Rattle.certcheck.proofs.list.each_entry.Goals as goal

pub loop-part-preserved : goal.loop-part-preserved
loop-part-preserved c =
    let t = tree_of (any_view c.in-Some.part) in
    let e : Some (entry_view c.in_ok-entry.entry) ≡ entry_at t = search rules in
    part_read entry_view entry_at c.loop-part.entries.items _ c.in_ok-entry.entry (trees_in c.loop-part.rest.now) (trees_in c.in-Some.after.now) t (list_at entry_at (trees_in c.args.parts.now))
    c.in-Some.ensures.trees e c.in_ok-push.ensures.items c.loop-part.invariant

pub returns-in_err-entry : goal.returns-in_err-entry
returns-in_err-entry c =
    let t = tree_of (any_view c.in-Some.part) in
    let stopped : None ≡ entry_at t → None ≡ list_at entry_at (trees_in c.args.parts.now) = λ n.
    part_refused entry_view entry_at c.loop-part.entries.items (trees_in c.loop-part.rest.now) (trees_in c.in-Some.after.now) t _ c.in-Some.ensures.trees n c.loop-part.invariant in
    search (rules, stopped)

pub returns : goal.returns
returns c = parts_read entry_view entry_at c.loop-part.entries.items (trees_in c.loop-part.rest.now) _ c.in_default.ensures.trees c.loop-part.invariant
