use Rattle.std.proofs.Common.{◌∙◌, sym, subst, ◌<◌, map, length}
use Rattle.std.specs.Prelude.{All}
use Rattle.std.proofs.lemmas.List.{map-append}
use Rattle.std.proofs.lemmas.List.Elements.{All-push}
use Rattle.x509_core.proofs.Many.{many_more, many_stops}
use Rattle.x509_items.proofs.TakenLaws.{taken_some, taken_none, if_taken}
use Rattle.x509_items.proofs.begins.each.Goals as goal

pub loop-values-preserved : goal.loop-values-preserved
loop-values-preserved g c =
    let T = g.T.Begins in
    let o = c.in_ok-rest.field-0 in
    let there = taken_some (λ r. (T.stands_for r.1, r.0.now)) o (c.in-Some.rest, c.in-Some.value) (T.reader c.loop-values.left.now) c.in-Some.is c.in_ok-rest.ensures.read in
    let less = if_taken o (c.in-Some.rest, c.in-Some.value) (λ r. length r.0.now < length c.loop-values.left.now) c.in-Some.is c.in_ok-rest.ensures.shorter in
    let counted = if_taken o (c.in-Some.rest, c.in-Some.value) (λ r. T.IsCounted r.1) c.in-Some.is c.in_ok-rest.ensures.counted in
    let step = many_more T.reader (map T.stands_for c.loop-values.values.items) c.loop-values.left.now c.in-Some.rest.now (T.stands_for c.in-Some.value) there less in
    record {
      read = rw (c.in_ok-push.ensures.items, map-append) (sym step ∙ c.loop-values.invariant.read);
      counted = subst (All T.IsCounted) (sym c.in_ok-push.ensures.items) (All-push T.IsCounted c.loop-values.values.items _ c.loop-values.invariant.counted counted);
    }

pub returns-clause-read : goal.returns-clause-read
returns-clause-read g c =
    let T = g.T.Begins in
    let none = taken_none (λ r. (T.stands_for r.1, r.0.now)) c.in_ok-rest.field-0 (T.reader c.loop-values.left.now) c.in_default.is c.in_ok-rest.ensures.read in
    sym c.loop-values.invariant.read ∙ many_stops T.reader (map T.stands_for c.loop-values.values.items) c.loop-values.left.now none.0 none.1
