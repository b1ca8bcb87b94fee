use Rattle.std.proofs.Common.{◌≡◌, ◌∙◌, ◌+◌, ℕ, List, [], length, get_or, arith, sym, subst, refl, true, Bor}
use Rattle.std.specs.Prelude.{◌↔◌, Any, Contains, IsTrue}
use Rattle.std.specs.BTreeSet as sorted
use Rattle.cert_graph.proofs.Sifted.{sifted_more, sifted_same, sifted_whole, nothing_added}
use Rattle.cert_judge.specs.Serials.{HasEqual, AreAsked}
use Rattle.cert_judge.specs.Standing.{anything, IsUsedAt, IsUsedAgainstAt, IsIssuedBeside}
use Rattle.cert_judge.specs.Copies.{places_at}
use Rattle.cert_judge.proofs.Sets.{R}
use Rattle.cert_judge.proofs.Mapped.{not_both}
use Rattle.cert_judge.proofs.StandingFacts.{issued_iff, none_issued}
use Rattle.cert_judge.proofs.Vouched.{mapped_contains}
use Rattle.cert_judge.proofs.standing.issued_under.Goals as goal
use Rattle.cert_judge.proofs.standing.issued_under.Goals.{then-is_issued+in_ok-push, else-is_issued, else-demand_lists-via-then-demand_lists+else-not-standing, else-demand_lists-via-else-demand_lists}

pub returns-then-not-standing : goal.returns-then-not-standing
returns-then-not-standing c =
    let js = c.args.items.now in
    let firsts = c.args.firsts.now in
    let ps = places_at firsts c.args.numbers.now in
    let listed = c.in_ok-standing.standing.listed in
    let lists = subst (λ l. IsTrue listed ↔ Any (IsUsedAt anything js []) l) (c.deref-2.ensures.value ∙ c.in_ok-places.ensures) c.in_ok-standing.ensures.listed in λ d. (
      λ h. let lt = (subst (λ l. Contains l d) c.new-found.ensures.items h).1 in absurd (omega arith),
      λ h. absurd (none_issued anything c.args.demand_lists js ps [] listed lists c.if-demand_lists.true c.if-not-standing.true (get_or firsts d 0) h.1),
    )

pub loop-number-preserved : goal.loop-number-preserved
loop-number-preserved c =
    let firsts = c.args.firsts.now in
    let C = λ (d : ℕ). IsIssuedBeside anything c.in_ok-standing.standing.revoked c.args.items.now [] (get_or firsts d 0) in
    let ns = c.args.numbers.now in
    let k = c.loop-number.number-index in
    let n = get_or ns k 0 in
    elim c.if-is_issued.branch [
      | then-is_issued+in_ok-push w ↦
          let at : n ≡ 0 + n = omega arith in
          rw (w.found-is, w.in_ok-push.ensures.items) (sifted_more 0 C ns k c.loop-number.found.items n c.requires.ascends c.loop-number-test.true c.loop-number.invariant at (c.is_issued.ensures.0 w.if-is_issued.true))
      | else-is_issued w ↦
          rw w.found-is (sifted_same 0 C ns k c.loop-number.found.items c.loop-number.invariant (λ v at is. not_both _ (c.is_issued.ensures.1 (subst C (sym (nothing_added n v at)) is)) w.if-is_issued.false))
    ]

pub returns : goal.returns
returns c =
    let revoked = c.in_ok-standing.standing.revoked in
    let js = c.args.items.now in
    let firsts = c.args.firsts.now in
    let ns = c.args.numbers.now in
    let ps = places_at firsts ns in
    let key : List ℕ = [] in
    let listed = c.in_ok-standing.standing.listed in
    let asked = c.in_ok-asked.asked.items in
    let same = c.in_ok-places.ensures in
    let end : c.loop-number.number-index ≡ length ns = omega arith in
    let all = sifted_whole (λ d. IsIssuedBeside anything revoked js key (get_or firsts d 0)) ns c.loop-number.number-index c.loop-number.found.items end c.loop-number.invariant in
    let demanded : c.args.demand_lists ≡ true → IsTrue listed = λ d. elim c.else-demand_lists.branch [
      | else-demand_lists-via-then-demand_lists+else-not-standing w ↦ w.if-not-standing.false
      | else-demand_lists-via-else-demand_lists w ↦ absurd (not_both _ d w.if-demand_lists.false)
    ] in
    let lists = subst (λ l. IsTrue listed ↔ Any (IsUsedAt anything js key) l) (c.deref-2.ensures.value ∙ same) c.in_ok-standing.ensures.listed in
    let serials = subst (λ l. (s : Bor (List ℕ)) → HasEqual s.now asked → IsTrue (sorted.contains R revoked s) ↔ Any (IsUsedAgainstAt anything js key s.now) l) (c.deref-2.ensures.value ∙ same)
    (subst (λ ts. (s : Bor (List ℕ)) → HasEqual s.now ts → IsTrue (sorted.contains R revoked s) ↔ Any (IsUsedAgainstAt anything js key s.now) c.deref-2.result.now) c.deref-3.ensures.value c.in_ok-standing.ensures.revoked) in
    let asks = subst (λ l. AreAsked js l asked) (c.deref.ensures.value ∙ same) c.in_ok-asked.ensures in
    let i = issued_iff anything c.args.demand_lists js ps key asked listed revoked lists serials demanded asks in
    λ d.
    let u = get_or firsts d 0 in
    let there = λ (h : Contains ns d). (mapped_contains (λ e. get_or firsts e 0) ns u).1 (d, h, refl) in
    (λ h. let x = (all d).0 h in (x.0, (i u (there x.0)).0 x.1), λ x. (all d).1 (x.0, (i u (there x.0)).1 x.1))
