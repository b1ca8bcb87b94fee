-- One round more, and the last.
use Rattle.std.proofs.Common.{◌≡◌, ℕ, ◌+◌, ◌<◌, ◌∙◌, length, replicate, subst, sym, ap, arith}
use Rattle.std.specs.Prelude.{max}
use Rattle.std.proofs.lemmas.List.{length_push}
use Rattle.cert_graph.specs.declared.reach.Reach.TheVariants.{No}
use Rattle.cert_graph.specs.Nodes.{graph_of}
use Rattle.cert_graph.proofs.Changing.{last_grows}
use Rattle.cert_search.specs.Rows.{StandsUnder}
use Rattle.cert_search.proofs.AllRows.{raised_more, all_raised}
use Rattle.cert_search.proofs.Bounding.{fit_is_item, rises_early}
use Rattle.cert_search.proofs.Exactness.{OffersExactly, raised_exact, offers_exact, offers_rise, stands_fixed}
use Rattle.cert_search.proofs.Ranking.{bound_of, rank_falls, offers_within, limits_within}
use Rattle.cert_search.proofs.Rounding.{moves, stands}
use Rattle.cert_search.proofs.all_rows.all_rows.Goals as goal

pub returns-then-not-has_risen : goal.returns-then-not-has_risen
returns-then-not-has_risen c =
    let g = graph_of c.args.nodes.now in
    let r = c.in_ok-changes.ensures in
    let new = c.rise.new.search in
    let exact = raised_exact g (length c.round.steps.items) c.round.search.offers.items new.row.items c.round.invariant.exact r.raised in
    let not : 0 < length new.risen.items → ⊥ = λ h. cc (c.if-not-has_risen.true, c.has_risen.ensures.1 h) in
    let none : length new.risen.items ≡ 0 = omega (arith, not) in
    let under : StandsUnder new.offers.items c.round.search.offers.items = stands c.round.search.offers.items new.offers.items new.risen.items r.risen none in
    all_raised g (replicate (length c.args.nodes.now.items.items) No) c.round.steps.items c.push.new.self.items c.in_ok-changes.changes c.round.search.row.items new.row.items c.in_ok-push.ensures.items c.round.invariant.last r.changed
    c.round.invariant.raised r.rising.whole exact
    (stands_fixed g (length c.round.steps.items) c.round.search.offers.items new.row.items new.offers.items c.round.invariant.exact r.raised r.offered under)
    c.round.invariant.few

pub round-smaller : goal.round-smaller
round-smaller c =
    let g = graph_of c.args.nodes.now in
    let r = c.in_ok-changes.ensures in
    let new = c.rise.new.search in
    let exact = raised_exact g (length c.round.steps.items) c.round.search.offers.items new.row.items c.round.invariant.exact r.raised in
    let next = offers_exact g (length c.round.steps.items + 1) new.row.items new.offers.items exact r.offered in
    let limits = limits_within c.args.nodes.now in
    rank_falls (bound_of c.args.nodes.now) c.round.search.offers.items new.offers.items (c.round.invariant.rising.offers_whole ∙ sym r.rising.offers_whole)
    (offers_within g (bound_of c.args.nodes.now) (length c.round.steps.items) c.round.search.offers.items limits c.round.invariant.exact)
    (offers_within g (bound_of c.args.nodes.now) (length c.round.steps.items + 1) new.offers.items limits next)
    (offers_rise g (length c.round.steps.items) (length c.round.steps.items + 1) c.round.search.offers.items new.offers.items (omega arith) c.round.invariant.exact next)
    (moves c.round.search.offers.items new.offers.items new.risen.items r.risen (c.has_risen.ensures.0 c.if-not-has_risen.false))

pub round-preserved : goal.round-preserved
round-preserved c =
    let g = graph_of c.args.nodes.now in
    let r = c.in_ok-changes.ensures in
    let new = c.rise.new.search in
    let step = c.in_ok-changes.changes in
    let exact = raised_exact g (length c.round.steps.items) c.round.search.offers.items new.row.items c.round.invariant.exact r.raised in
    let none = replicate (length c.args.nodes.now.items.items) No in
    let next = offers_exact g (length c.round.steps.items + 1) new.row.items new.offers.items exact r.offered in
    let early : length c.round.steps.items + 1 < max 1 (length c.args.nodes.now.items.items) =
    rises_early g (fit_is_item c.args.nodes.now) (length c.round.steps.items) c.round.search.offers.items new.offers.items r.rising.offers_whole c.round.invariant.exact next
    (moves c.round.search.offers.items new.offers.items new.risen.items r.risen (c.has_risen.ensures.0 c.if-not-has_risen.false)) in
    let size : length c.push.new.self.items ≡ length c.round.steps.items + 1 = ap length c.in_ok-push.ensures.items ∙ length_push c.round.steps.items step in record {
      places = c.in_ok-noted.ensures;
      rising = r.rising;
      last = last_grows none c.round.steps.items c.push.new.self.items step c.round.search.row.items new.row.items c.in_ok-push.ensures.items c.round.invariant.last r.changed;
      exact = subst (λ (n : ℕ). OffersExactly g n new.offers.items) (sym size) next;
      raised = raised_more g none c.round.steps.items c.push.new.self.items step c.round.search.row.items new.row.items c.in_ok-push.ensures.items c.round.invariant.last r.changed c.round.invariant.raised r.rising.whole exact;
      few = omega arith;
    }
