-- One row more is compared with the one before it, which then becomes equal to it.
use Rattle.std.proofs.Common.{◌≡◌, ◌∙◌, ◌<◌, ℕ, List, [], get_or, length, replicate, true, Vec, Global, ap, arith, subst, sym}
use Rattle.std.proofs.lemmas.List.{take_all, with_items_is}
use Rattle.cert_graph.specs.declared.changes.Change.{Change}
use Rattle.cert_graph.specs.declared.reach.Reach.{Reach}
use Rattle.cert_graph.specs.declared.reach.Reach.TheVariants.{No}
use Rattle.cert_graph.specs.Adequate.{changed}
use Rattle.cert_graph.specs.Changes.{last_by}
use Rattle.cert_graph.specs.Groups.{HoldsEachLimit, FollowsRow}
use Rattle.cert_graph.specs.Nodes.{graph_of}
use Rattle.cert_graph.specs.Tables.{IsTable}
use Rattle.cert_graph.proofs.Changing.{items_by, last_more}
use Rattle.cert_graph.proofs.Following.{step_items, goes_refused, test_of}
use Rattle.cert_graph.proofs.RowByRow.{row_of_no, rows_in, row_at, no_table, table_more}
use Rattle.cert_graph.proofs.standing.last_of_table.Goals as goal

pub loop-number-init : goal.loop-number-init
loop-number-init c =
    let first : c.len.result ≡ length c.args.nodes.now.items.items = omega arith in
    let second : c.len-2.result ≡ length c.args.nodes.now.items.items = omega arith in record {
      before = c.in_ok-before.ensures ∙ ap (λ (n : ℕ). replicate n No) first;
      row = c.in_ok-row.ensures ∙ ap (λ (n : ℕ). replicate n No) second;
      table = no_table (graph_of c.args.nodes.now);
      limits = λ some. absurd (omega (arith, some));
      follows = λ k e. absurd (omega (arith, e));
    }

pub returns-then-not-goes_on-clause-none : goal.returns-then-not-goes_on-clause-none
returns-then-not-goes_on-clause-none c = λ h.
    let nodes = c.args.nodes.now in
    let steps = c.args.steps.now in
    let none = row_of_no nodes in
    let i = c.loop-number.number in
    let x = c.index-steps-number.result in
    let size : length c.make.new.row ≡ c.loop-number.row.len = c.make.auto.row ∙ c.deref_mut.ensures.len in
    let e = with_items_is c.loop-number.row c.make.new.row size in
    let made : c.make.new.row ≡ changed c.loop-number.row.items x.items =
    c.make.ensures ∙ ap (λ (r : List Reach). changed r c.deref.result.now) c.deref_mut.ensures.value ∙ ap (λ (xs : List Change). changed c.loop-number.row.items xs) c.deref.ensures.value in
    let now : c.deref-in-loop-number-3.result.now ≡ c.make.new.row = c.deref-in-loop-number-3.ensures.value ∙ e in
    let here : i < length steps = c.loop-number-test.true in
    let test = test_of nodes steps i x c.loop-number.before.items c.loop-number.row.items c.make.new.row c.deref-in-loop-number-2.result.now c.deref-in-loop-number-3.result.now here c.index-steps-number.is c.deref-in-loop-number-2.ensures.value now
    (c.loop-number.invariant.before ∙ sym c.loop-number.invariant.row) made c.loop-number.invariant.limits c.loop-number.invariant.follows c.goes_on.ensures in
    goes_refused nodes steps i c.loop-number.before.items c.make.new.row here c.loop-number.invariant.before
    (row_at none steps i x c.loop-number.row.items c.make.new.row here c.index-steps-number.is c.loop-number.invariant.row made)
    (λ both. let yes : c.goes_on.result ≡ true = test.1 both in cc) h

pub loop-number-preserved : goal.loop-number-preserved
loop-number-preserved c =
    let nodes = c.args.nodes.now in
    let steps = c.args.steps.now in
    let none = row_of_no nodes in
    let i = c.loop-number.number in
    let x = c.index-steps-number.result in
    let size : length c.make.new.row ≡ c.loop-number.row.len = c.make.auto.row ∙ c.deref_mut.ensures.len in
    let e = with_items_is c.loop-number.row c.make.new.row size in
    let made : c.make.new.row ≡ changed c.loop-number.row.items x.items =
    c.make.ensures ∙ ap (λ (r : List Reach). changed r c.deref.result.now) c.deref_mut.ensures.value ∙ ap (λ (xs : List Change). changed c.loop-number.row.items xs) c.deref.ensures.value in
    let again : length c.make-in-loop-number.new.row ≡ c.loop-number.before.len = c.make-in-loop-number.auto.row ∙ c.deref_mut-in-loop-number.ensures.len in
    let f = with_items_is c.loop-number.before c.make-in-loop-number.new.row again in
    let caught : c.make-in-loop-number.new.row ≡ changed c.loop-number.before.items x.items =
    c.make-in-loop-number.ensures ∙ ap (λ (r : List Reach). changed r c.deref-in-loop-number-4.result.now) c.deref_mut-in-loop-number.ensures.value ∙ ap (λ (xs : List Change). changed c.loop-number.before.items xs) c.deref-in-loop-number-4.ensures.value in
    let now : c.deref-in-loop-number-3.result.now ≡ c.make.new.row = c.deref-in-loop-number-3.ensures.value ∙ e in
    let here : i < length steps = c.loop-number-test.true in
    let same : c.loop-number.before.items ≡ c.loop-number.row.items = c.loop-number.invariant.before ∙ sym c.loop-number.invariant.row in
    let test = test_of nodes steps i x c.loop-number.before.items c.loop-number.row.items c.make.new.row c.deref-in-loop-number-2.result.now c.deref-in-loop-number-3.result.now here c.index-steps-number.is c.deref-in-loop-number-2.ensures.value now
    same made c.loop-number.invariant.limits c.loop-number.invariant.follows c.goes_on.ensures in
    let both = test.0 c.if-not-goes_on.false in
    let one : c.make.new.row ≡ c.make-in-loop-number.new.row = made ∙ ap (λ (r : List Reach). changed r x.items) (sym same) ∙ sym caught in
    record {
      before = f ∙ last_more none steps i x c.loop-number.before.items c.make-in-loop-number.new.row here c.index-steps-number.is c.loop-number.invariant.before caught;
      row = e ∙ last_more none steps i x c.loop-number.row.items c.make.new.row here c.index-steps-number.is c.loop-number.invariant.row made;
      table = table_more nodes steps i x c.loop-number.row.items c.make.new.row here c.index-steps-number.is c.loop-number.invariant.row made both.0 (subst (λ (r : List Reach). FollowsRow nodes r c.make.new.row) same both.1) c.loop-number.invariant.table;
      limits = λ some. subst (HoldsEachLimit nodes) (one ∙ sym f) both.0;
      follows = λ k next.
          let at : i ≡ k = omega (arith, next) in (
            c.loop-number.before.items,
            f ∙ caught ∙ ap (λ (xs : List Change). changed c.loop-number.before.items xs) (step_items steps i x here c.index-steps-number.is) ∙ ap (λ (n : ℕ). changed c.loop-number.before.items (get_or (items_by steps) n [])) at,
            subst (λ (r : List Reach). FollowsRow nodes c.loop-number.before.items r) (one ∙ sym f) both.1,
          );
    }

pub returns-clause-table : goal.returns-clause-table
returns-clause-table c =
    let nodes = c.args.nodes.now in
    subst (λ (xs : List (Vec Change Global)). IsTable (graph_of nodes) (rows_in nodes xs)) (take_all c.loop-number.number c.args.steps.now c.loop-number-test.false) c.loop-number.invariant.table

pub returns-clause-last : goal.returns-clause-last
returns-clause-last c =
    let nodes = c.args.nodes.now in
    subst (λ (xs : List (Vec Change Global)). c.loop-number.row.items ≡ last_by (row_of_no nodes) (items_by xs)) (take_all c.loop-number.number c.args.steps.now c.loop-number-test.false) c.loop-number.invariant.row
