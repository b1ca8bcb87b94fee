use Rattle.std.proofs.Common.{◌≡◌, ◌∙◌, ◌<◌, ◌≤◌, ℕ, length, map, List, Vec, ap, arith, refl, sym, subst, slice_index_or}
use Rattle.std.specs.declared.alloc.Global.{Global}
use Rattle.std.proofs.lemmas.List.{map_push}
use Rattle.cert_graph.specs.declared.reach.Reach.{Reach}
use Rattle.std.proofs.lemmas.Grind.{common_steps}
use Rattle.certpath_c.specs.Answers.{AreNoRows}
use Rattle.certpath_c.proofs.TableRows.{TableSoFar, row_more, no_rows_few, no_rows_front, wide_at}
use Rattle.certpath_c.proofs.tables.table_of.Goals as goal

pub loop-rest-preserved : goal.loop-rest-preserved
loop-rest-preserved c =
    let read = rw c.in-Some.is at c.in_ok-row.ensures.found in
    let split = c.split_at.ensures in
    let some : 0 < c.args.width = grind (arith, common_steps) in
    let more = row_more c.args.width c.args.entries.now c.loop-rest.rest.now c.split_at.result.0.now c.split_at.result.1.now (map (λ (r : Vec Reach Global). r.items) c.loop-rest.rows.items) c.in-Some.row.items c.loop-rest.invariant split.by_index.0 read.0 read.1 split.front_len some in
    subst (TableSoFar c.args.width c.args.entries.now c.split_at.result.1.now)
    (sym (ap (λ (rs : List (Vec Reach Global)). map (λ (r : Vec Reach Global). r.items) rs) c.in_ok-push.ensures.items ∙ map_push (λ (r : Vec Reach Global). r.items) c.loop-rest.rows.items c.in-Some.row)) more

pub returns-then-is_short-clause-none : goal.returns-then-is_short-clause-none
returns-then-is_short-clause-none c =
    let some : 0 < length c.loop-rest.rest.now = grind (arith, common_steps) in
    c.loop-rest.invariant.none (no_rows_few c.args.width c.loop-rest.rest.now some (c.if-is_short.ensures.0 refl))

pub returns-in_default-clause-none : goal.returns-in_default-clause-none
returns-in_default-clause-none c =
    let none = rw c.in_default.is at c.in_ok-row.ensures.none in
    let split = c.split_at.ensures in
    let some : 0 < c.args.width = grind (arith, common_steps) in
    c.loop-rest.invariant.none (subst (AreNoRows c.args.width) (sym split.by_index.0) (no_rows_front c.args.width c.split_at.result.0.now c.split_at.result.1.now split.front_len some none))

pub steps_of_rows-requires : goal.steps_of_rows-requires
steps_of_rows-requires c =
    subst (λ (rs : List (Vec Reach Global)). (k : ℕ) (d : Vec Reach Global) → k < length rs → length (slice_index_or rs k d).items ≡ c.args.width)
    (sym c.deref.ensures.value) (wide_at c.args.width c.loop-rest.rows.items c.loop-rest.invariant.whole)
