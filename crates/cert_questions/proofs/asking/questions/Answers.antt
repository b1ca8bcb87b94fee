use Rattle.std.proofs.Common.{rules, ◌≡◌, ◌∙◌, ap, sym, subst, ℕ, ◌<◌, ◌++◌, List, map, length, arith, slice_get, Some, None, Bor, option_map}
use Rattle.std.proofs.lemmas.List.{map-append, get_or_default}
use Rattle.std.proofs.lemmas.Option.{slice_get-get_or}
use Rattle.cert_graph.specs.declared.places.Place.{Place}
use Rattle.cert_judge.proofs.Grouping.{element}
use Rattle.cert_questions.specs.declared.names.Shown.{Shown}
use Rattle.cert_questions.specs.Firsts.{AreFirstsUnder}
use Rattle.cert_questions.specs.Places.{places_of, asked_of}
use Rattle.cert_questions.proofs.Places.{kept_at, issuer_in}
use Rattle.cert_questions.proofs.Asked.{AskedUpTo, asked_none, asked_same, asked_more, are_questions}
use Rattle.cert_questions.proofs.asking.questions.Goals as goal
use Rattle.cert_questions.proofs.asking.questions.Goals.{in-Some+in_ok-push_questions, in_default}

pub loop-item-init : goal.loop-item-init
loop-item-init c = rw c.new-questions.ensures.items (asked_none c.deref-one-items.result.now c.in_ok-all.all.items (length c.deref-one-items.result.now))

pub loop-item-preserved : goal.loop-item-preserved
loop-item-preserved c =
    let shown = c.deref-one-items.result.now in
    let all = c.in_ok-all.all.items in
    let n = length shown in
    let k = c.loop-item.item in
    let qs = c.loop-item.questions.items in
    let lt : k < n = c.loop-item-test.true in
    let x = (element shown k lt).0 in
    elim c.match-one.branch [
      | in-Some+in_ok-push_questions w ↦
          let issuer : kept_at issuer_in (slice_get shown k) ≡ Some w.in-Some.name.now =
          ap (kept_at issuer_in) (slice_get-get_or shown k x lt) ∙ ap issuer_in (get_or_default shown k x _ lt) ∙ ap (option_map (λ (t : Bor (List ℕ)). t.now)) w.in-Some.is in
          let firsts = subst (λ (l : List Place). AreFirstsUnder l w.in-Some.name.now w.under.result.now) c.deref-3.ensures.value (w.under.ensures c.deref-3.result.now c.in_ok-holders.ensures) in
          let count : w.len.result ≡ length c.in_ok-shown.shown.items = search rules in
          let same : w.len.result ≡ n = count ∙ ap length (sym c.deref-one-items.ensures.value) in
          let pushed : w.push_questions.new.questions.items ≡ qs ++ map (asked_of n k) w.under.result.now =
          w.in_ok-push_questions.ensures ∙ ap (λ (m : ℕ). qs ++ map (asked_of m k) w.under.result.now) same in
          rw (w.questions-is, pushed) (asked_more shown all n k qs w.in-Some.name.now w.under.result.now issuer firsts c.loop-item.invariant)
      | in_default w ↦
          let none : kept_at issuer_in (slice_get shown k) ≡ None =
          ap (kept_at issuer_in) (slice_get-get_or shown k x lt) ∙ ap issuer_in (get_or_default shown k x _ lt) ∙ ap (option_map (λ (t : Bor (List ℕ)). t.now)) w.in_default.is in
          rw w.questions-is (asked_same shown all n k qs none c.loop-item.invariant)
    ]

pub returns : goal.returns
returns c =
    let shown = c.in_ok-shown.shown.items in
    let more = c.in_ok-anchors_shown.anchors_shown.items in
    let all = c.in_ok-all.all.items in
    let qs = c.loop-item.questions.items in
    let k = c.loop-item.item in
    let holder : Shown → Place = λ s. s.holder in
    let all_is : all ≡ places_of (shown ++ more) =
    c.in_ok-all.ensures ∙ ap (λ (l : List Shown). places_of l ++ places_of c.deref-2.result.now) c.deref.ensures.value ∙ ap (λ (l : List Shown). places_of shown ++ places_of l) c.deref-2.ensures.value
    ∙ sym (map-append holder shown more) in
    let end : k ≡ length c.deref-one-items.result.now = omega arith in
    let asked = subst (λ (l : List Place). AskedUpTo shown l (length shown) k qs) all_is
    (subst (λ (l : List Shown). AskedUpTo l all (length l) k qs) c.deref-one-items.ensures.value c.loop-item.invariant) in (
      c.in_ok-shown.ensures.0,
      c.in_ok-anchors_shown.ensures.0,
      c.in_ok-shown.ensures.1,
      c.in_ok-anchors_shown.ensures.1,
      are_questions c.in_ok-shown.ensures.0 c.in_ok-anchors_shown.ensures.0 shown more qs k c.in_ok-shown.ensures.2 c.in_ok-anchors_shown.ensures.2 (end ∙ ap length c.deref-one-items.ensures.value) asked,
    )
