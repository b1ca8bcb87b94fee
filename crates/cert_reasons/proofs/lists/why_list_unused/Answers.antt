use Rattle.std.proofs.Common.{false, [], refl}
use Rattle.std.specs.Prelude.{IsTrue}
use Rattle.cert_model.specs.Octets.{name_octets}
use Rattle.cert_judge.specs.Vouching.{vouching_alone}
use Rattle.cert_judge.specs.Items.{list_of, list_item, rules_by}
use Rattle.cert_judge.specs.Revoking.{IsUsedList}
use Rattle.cert_judge.proofs.Mapped.{not_both}
use Rattle.cert_reasons.specs.Lists.{HasListReason, list_order}
use Rattle.cert_reasons.proofs.Ordered.{up_all}
use Rattle.cert_reasons.proofs.OfLists.{kinds_end, all_of_used, none_stands, not_unused}
use Rattle.cert_reasons.proofs.lists.why_list_unused.Goals as goal

pub returns-then-is_used-clause-all : goal.returns-then-is_used-clause-all
returns-then-is_used-clause-all c =
    let u = c.is_used.ensures.0 c.if-is_used.true in
    rw c.new-found.ensures.items (all_of_used (rules_by c.args.moment.now false (vouching_alone (λ k i. IsTrue c.args.vouched))) (name_octets (list_of c.args.list.now).issuer) [] (list_item c.args.list.now) (list_of c.args.list.now) (record { is_list = refl; issuer = refl; vouched = u.0; current = u.1; plain = u.2 }))

pub returns-clause-all : goal.returns-clause-all
returns-clause-all c = up_all list_order (HasListReason (rules_by c.args.moment.now false (vouching_alone (λ k i. IsTrue c.args.vouched))) [] (list_item c.args.list.now) (list_of c.args.list.now)) c.add_of_entries.new.found.items 6 c.in_ok-add_of_entries.ensures kinds_end

pub returns-clause-none : goal.returns-clause-none
returns-clause-none c =
    let all = up_all list_order (HasListReason (rules_by c.args.moment.now false (vouching_alone (λ k i. IsTrue c.args.vouched))) [] (list_item c.args.list.now) (list_of c.args.list.now)) c.add_of_entries.new.found.items 6 c.in_ok-add_of_entries.ensures kinds_end in
    let name = name_octets (list_of c.args.list.now).issuer in
    let unused : IsUsedList (rules_by c.args.moment.now false (vouching_alone (λ k i. IsTrue c.args.vouched))) name [] (list_item c.args.list.now) (list_of c.args.list.now) → ⊥ = λ u. not_both _ (c.is_used.ensures.1 (u.vouched, u.current, u.plain)) c.if-is_used.false in (
      λ e. absurd (not_unused (rules_by c.args.moment.now false (vouching_alone (λ k i. IsTrue c.args.vouched))) name [] (list_item c.args.list.now) (list_of c.args.list.now) refl refl (none_stands (rules_by c.args.moment.now false (vouching_alone (λ k i. IsTrue c.args.vouched))) [] (list_item c.args.list.now) (list_of c.args.list.now) c.add_of_entries.new.found.items all e) unused),
      λ u. absurd (not_both _ (c.is_used.ensures.1 u) c.if-is_used.false),
    )
