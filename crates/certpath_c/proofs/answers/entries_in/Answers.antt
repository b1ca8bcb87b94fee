use Rattle.std.proofs.Common.{◌≡◌, ◌∙◌, ◌<◌, ◌≤◌, arith, ap, sym, subst, List, length, map, get_or, Vec}
use Rattle.std.specs.declared.alloc.Global.{Global}
use Rattle.std.proofs.lemmas.List.{length-map, get_or-map}
use Rattle.cert_graph.specs.declared.reach.Reach.{Reach}
use Rattle.certpath_c.specs.Answers.{FitsRow}
use Rattle.certpath_c.proofs.EntriesSoFar.{one_more, all_of, entries_more}
use Rattle.certpath_c.proofs.answers.entries_in.Goals as goal

pub loop-row-preserved : goal.loop-row-preserved
loop-row-preserved c =
    let rows = map (λ (r : Vec Reach Global). r.items) c.args.rows.now in
    let i = c.loop-row.row-index in
    let row = c.row-item.result in
    let size : length rows ≡ length c.args.rows.now = length-map c.args.rows.now (λ (r : Vec Reach Global). r.items) in
    let at : row.items ≡ get_or rows i row.items = ap (λ (r : Vec Reach Global). r.items) c.row-item.is ∙ sym (get_or-map (λ (r : Vec Reach Global). r.items) c.args.rows.now i row row.items c.loop-row-test.true) in
    let lt : i < length rows = omega (arith, size, c.loop-row-test.true) in
    record {
      all = entries_more rows c.loop-row.entries.items _ i row.items lt at c.in_ok-push_of.ensures.pushed c.loop-row.invariant.all;
      fit = one_more FitsRow rows i row.items lt (subst FitsRow at c.in_ok-push_of.ensures.fits) c.loop-row.invariant.fit;
    }

pub returns-clause-fit : goal.returns-clause-fit
returns-clause-fit c =
    let rows = map (λ (r : Vec Reach Global). r.items) c.args.rows.now in
    let size : length rows ≡ length c.args.rows.now = length-map c.args.rows.now (λ (r : Vec Reach Global). r.items) in
    let le : length rows ≤ c.loop-row.row-index = omega (arith, size, c.loop-row-test.false) in
    all_of FitsRow rows c.loop-row.row-index le c.loop-row.invariant.fit
