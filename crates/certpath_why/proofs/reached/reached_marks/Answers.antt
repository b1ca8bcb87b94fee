use Rattle.std.proofs.Common.{◌≤◌, ◌∙◌, ap, sym, map, length, get_or, arith}
use Rattle.std.proofs.lemmas.List.{length-map}
use Rattle.cert_judge.specs.Items.{item_of}
use Rattle.cert_judge.proofs.Mapped.{not_both}
use Rattle.certpath_why.proofs.Spreading.{nothing_reached, spent_none, spread_begun, spread_more, spread_all}
use Rattle.certpath_why.proofs.reached.reached_marks.Goals as goal

pub returns-then-not-is_certificate : goal.returns-then-not-is_certificate
returns-then-not-is_certificate c =
    nothing_reached (map item_of c.args.found.now.items.now) c.args.target c.in_ok-marks.marks.items c.in_ok-marks.ensures.none (λ cert. not_both _ (c.is_certificate.ensures.1 cert) c.if-not-is_certificate.true)

pub loop-done-init : goal.loop-done-init
loop-done-init c =
    let items = c.args.found.now.items.now in
    let long = sym (length-map items item_of) in (
      spread_begun (map item_of items) c.args.target c.in_ok-marks.marks.items c.visit.new.marks.items c.visit.new.queue.items (c.is_certificate.ensures.0 c.if-not-is_certificate.false)
          (c.in_ok-marks.ensures.count ∙ long) c.in_ok-marks.ensures.none (rw c.new-queue.ensures.items at c.in_ok-visit.ensures),
      spent_none (map item_of items) c.in_ok-spent.spent.items c.visit.new.marks.items (c.in_ok-spent.ensures.count ∙ long) c.in_ok-spent.ensures.none,
    )

pub returns-then-done-waiting : goal.returns-then-done-waiting
returns-then-done-waiting c =
    spread_all (map item_of c.args.found.now.items.now) c.args.target c.loop-done.done c.loop-done.marks.items c.loop-done.queue.items (rw c.as_slice-waiting.ensures.value at c.if-done-waiting.true) c.loop-done.invariant.0

pub loop-done-preserved : goal.loop-done-preserved
loop-done-preserved c =
    let value = c.as_slice-waiting.ensures.value in
    let done = c.loop-done.done in (
      spread_more (map item_of c.args.found.now.items.now) c.args.target done (get_or c.as_slice-waiting.result.now done 0) c.loop-done.marks.items c.spread_from.new.marks.items c.loop-done.queue.items c.spread_from.new.queue.items
          (rw value at c.if-done-waiting.false) (ap (λ l. get_or l done 0) value) c.loop-done.invariant.0 c.in_ok-spread_from.ensures.spread,
      c.in_ok-spread_from.ensures.spent,
    )

pub returns : goal.returns
returns c =
    let small = c.loop-done.queue.small in
    let fits = c.loop-done.queue.ok in
    let end = c.loop-done-test.false in
    let le : length c.loop-done.queue.items ≤ c.loop-done.done = omega (arith, small, fits, end) in
    spread_all (map item_of c.args.found.now.items.now) c.args.target c.loop-done.done c.loop-done.marks.items c.loop-done.queue.items le c.loop-done.invariant.0
