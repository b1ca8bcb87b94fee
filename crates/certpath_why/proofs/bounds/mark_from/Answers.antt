use Rattle.std.proofs.Common.{◌∙◌, sym, refl}
use Rattle.cert_graph.specs.Entries.{IsAt}
use Rattle.cert_judge.specs.ItemGraph.{IsLink}
use Rattle.cert_judge.specs.Items.{rules_by}
use Rattle.cert_judge.proofs.Mapped.{not_both}
use Rattle.certpath_why.specs.Question.{items_in}
use Rattle.certpath_why.specs.Bounds.{reach_by, IsHeldBack}
use Rattle.certpath_why.specs.Held.{HoldsBack}
use Rattle.certpath_why.proofs.Fated.{linked_named}
use Rattle.certpath_why.proofs.Items.{at_read, none_read}
use Rattle.certpath_why.proofs.Searching.{done_more, held_by_kind, marks_there}
use Rattle.certpath_why.proofs.Signed.{signed_first, signed_number}
use Rattle.certpath_why.proofs.Tailing.{no_first, some_first}
use Rattle.certpath_why.proofs.Bounding.{marks_none, marks_as, not_counted, counted_iff, held_iff}
use Rattle.certpath_why.proofs.bounds.mark_from.Goals as goal

pub returns-in_default-clause-marks : goal.returns-in_default-clause-marks
returns-in_default-clause-marks g c = absurd (none_read c.args.question.now.found.now.items.now c.args.place (c.in_default.ensures.only refl) c.requires.certificate)

pub returns-then-not-leads_nowhere-clause-marks : goal.returns-then-not-leads_nowhere-clause-marks
returns-then-not-leads_nowhere-clause-marks g c = marks_none (IsHeldBack (rules_by c.args.question.now.policy.now.moment c.args.question.now.policy.now.demand_lists (g.S.Vouch.vouches_for c.args.searched.now.vouch.now)) (items_in c.args.question.now) (reach_by c.args.searched.now.answer.now) c.args.place) c.args.marks.now.items (λ v h. not_both _ (c.leads_nowhere.ensures.1 (c.reach_in.ensures ∙ h.leads_nowhere)) c.if-not-leads_nowhere.true)

pub returns-then-not-is_counted-clause-marks : goal.returns-then-not-is_counted-clause-marks
returns-then-not-is_counted-clause-marks g c =
    marks_none (IsHeldBack (rules_by c.args.question.now.policy.now.moment c.args.question.now.policy.now.demand_lists (g.S.Vouch.vouches_for c.args.searched.now.vouch.now)) (items_in c.args.question.now) (reach_by c.args.searched.now.answer.now) c.args.place) c.args.marks.now.items (not_counted (rules_by c.args.question.now.policy.now.moment c.args.question.now.policy.now.demand_lists (g.S.Vouch.vouches_for c.args.searched.now.vouch.now)) c.args.question.now.found.now.items.now (reach_by c.args.searched.now.answer.now) c.args.place c.in-Some.certificate.now c.in-Some.ensures.found (λ n. not_both _ (c.is_counted.ensures.1 n) c.if-not-is_counted.true))

pub returns-in_default-first-clause-marks : goal.returns-in_default-first-clause-marks
returns-in_default-first-clause-marks g c =
    let q = c.args.question.now in
    let x = c.in-Some.certificate.now in
    let items = items_in q in
    let r = rules_by q.policy.now.moment q.policy.now.demand_lists (g.S.Vouch.vouches_for c.args.searched.now.vouch.now) in
    marks_none (IsHeldBack r items (reach_by c.args.searched.now.answer.now) c.args.place) c.args.marks.now.items (λ v h.
    let l = (at_read (λ z. IsAt items v (IsLink r items z)) q.found.now.items.now c.args.place x c.in-Some.ensures.found).1 h.linked in
    no_first c.issuers.result.now c.in_default-first.ensures.value v ((c.issuers.ensures.exact v).1 (linked_named r items x v l)))

pub held_kind-requires-clause-first : goal.held_kind-requires-clause-first
held_kind-requires-clause-first g c = (c.issuers.ensures.exact c.in-Some-first.first.now).0 (some_first c.issuers.result.now c.in-Some-first.first.now c.in-Some-first.ensures.value)

pub held_kind-requires-clause-place : goal.held_kind-requires-clause-place
held_kind-requires-clause-place g c =
    let q = c.args.question.now in
    let firsts = c.requires.firsts in
    signed_number (g.S.Vouch.vouches_for c.args.searched.now.vouch.now).Vouches q.found.now.items.now q.found.now.items.now q.signers.now.classes firsts.holders firsts.signed_are c.args.place c.in-Some.ensures.found.0

pub held_kind-requires-clause-number : goal.held_kind-requires-clause-number
held_kind-requires-clause-number g c =
    let q = c.args.question.now in
    signed_first (g.S.Vouch.vouches_for c.args.searched.now.vouch.now).Vouches q.found.now.items.now q.found.now.items.now q.signers.now.classes c.args.searched.now.firsts.now c.requires.firsts c.args.place c.in-Some.ensures.found.0

pub returns-then-contains-clause-marks : goal.returns-then-contains-clause-marks
returns-then-contains-clause-marks g c =
    let q = c.args.question.now in
    let x = c.in-Some.certificate.now in
    let r = rules_by q.policy.now.moment q.policy.now.demand_lists (g.S.Vouch.vouches_for c.args.searched.now.vouch.now) in
    let kind = c.in_ok-kind.ensures in
    marks_there (IsHeldBack r (items_in q) (reach_by c.args.searched.now.answer.now) c.args.place) c.args.marks.now.items
    (λ v h. c.requires.held.done c.in_ok-kind.kind (sym c.contains.ensures ∙ c.if-contains.true) c.args.place x c.in-Some.ensures.found kind v h)

pub mark_among-requires-clause-first : goal.mark_among-requires-clause-first
mark_among-requires-clause-first g c = (c.issuers.ensures.exact c.in-Some-first.first.now).0 (some_first c.issuers.result.now c.in-Some-first.first.now c.in-Some-first.ensures.value)

pub returns-clause-held : goal.returns-clause-held
returns-clause-held g c =
    let q = c.args.question.now in
    let x = c.in-Some.certificate.now in
    let V = g.S.Vouch.vouches_for c.args.searched.now.vouch.now in
    let r = rules_by q.policy.now.moment q.policy.now.demand_lists V in
    let items = items_in q in
    let reach = reach_by c.args.searched.now.answer.now in
    let nowhere = sym c.reach_in.ensures ∙ c.leads_nowhere.ensures.0 c.if-not-leads_nowhere.false in
    let count = c.is_counted.ensures.0 c.if-not-is_counted.false in
    let counts = (counted_iff q.found.now.items.now c.args.place x c.in-Some.ensures.found).0 count in
    let kind = c.in_ok-kind.ensures in
    let marked = marks_as (HoldsBack r items reach x) (IsHeldBack r items reach c.args.place) c.args.marks.now.items c.mark_among.new.marks.items (held_iff r q.found.now.items.now reach c.args.place x c.in-Some.ensures.found nowhere count) c.in_ok-mark_among.ensures.marks in
    record {
      done = done_more q V c.args.searched.now.firsts.now reach c.args.place c.args.held.now.done c.insert.new.self c.in_ok-kind.kind c.args.marks.now.items c.mark_among.new.marks.items c.requires.held.done marked (λ k. c.in_ok-insert.ensures.updates.0 k)
          (λ w y at is v back. held_by_kind q V c.args.searched.now.firsts.now reach c.args.place w x y c.in_ok-kind.kind c.requires.firsts c.in-Some.ensures.found at kind is nowhere counts v back);
      groups = c.in_ok-mark_among.ensures.groups;
      bare = c.in_ok-mark_among.ensures.bare;
    }

pub returns-clause-marks : goal.returns-clause-marks
returns-clause-marks g c =
    let q = c.args.question.now in
    let x = c.in-Some.certificate.now in
    let r = rules_by q.policy.now.moment q.policy.now.demand_lists (g.S.Vouch.vouches_for c.args.searched.now.vouch.now) in
    let items = items_in q in
    let reach = reach_by c.args.searched.now.answer.now in
    let nowhere = sym c.reach_in.ensures ∙ c.leads_nowhere.ensures.0 c.if-not-leads_nowhere.false in
    let count = c.is_counted.ensures.0 c.if-not-is_counted.false in
    marks_as (HoldsBack r items reach x) (IsHeldBack r items reach c.args.place) c.args.marks.now.items c.mark_among.new.marks.items (held_iff r q.found.now.items.now reach c.args.place x c.in-Some.ensures.found nowhere count) c.in_ok-mark_among.ensures.marks

pub of-requires-clause-firsts : goal.of-requires-clause-firsts
of-requires-clause-firsts g c = c.requires.rows.firsts

pub of-requires-clause-within : goal.of-requires-clause-within
of-requires-clause-within g c = λ p n is. (c.requires.rows.numbered p n is).0

pub returns-in_default-of-clause-marks : goal.returns-in_default-of-clause-marks
returns-in_default-of-clause-marks g c = absurd (c.in_default-of.ensures.only refl c.requires.number)

pub held_kind-requires-clause-row : goal.held_kind-requires-clause-row
held_kind-requires-clause-row g c =
    let q = c.args.question.now in
    (c.in-Some-of.ensures.found q.found.now.items.now q.policy.now.moment c.in-Some.certificate.now c.requires.rows.numbered c.in-Some.ensures.found).is_row

pub mark_among-requires-clause-row : goal.mark_among-requires-clause-row
mark_among-requires-clause-row g c =
    let q = c.args.question.now in
    (c.in-Some-of.ensures.found q.found.now.items.now q.policy.now.moment c.in-Some.certificate.now c.requires.rows.numbered c.in-Some.ensures.found).is_row
