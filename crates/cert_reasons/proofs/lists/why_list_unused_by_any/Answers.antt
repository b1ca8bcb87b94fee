use Rattle.std.specs.Prelude.{IsTrue}
use Rattle.std.proofs.Common.{map, List, ℕ, Bor, [], false}
use Rattle.cert_judge.specs.Vouching.{vouching_alone}
use Rattle.cert_judge.specs.Items.{list_of, list_item, rules_by}
use Rattle.cert_judge.proofs.Mapped.{any_mapped}
use Rattle.cert_reasons.specs.Lists.{HasListReason, HasReasonAmong, list_order}
use Rattle.cert_reasons.proofs.OfLists.{among_iff, used_among_iff}
use Rattle.cert_reasons.proofs.Ordered.{all_as}
use Rattle.cert_reasons.proofs.lists.why_list_unused_by_any.Goals as goal

pub returns-clause-all : goal.returns-clause-all
returns-clause-all g c =
    let V = g.V.Vouch.vouches_for c.args.vouch.now in
    let p = c.args.policy.now in
    let x = c.args.list.now in
    let keys = map (λ (k : Bor (List ℕ)). k.now) c.args.keys.now in
    let vouched = c.is_vouched_by_any-vouched.result in
    let asked = any_mapped (λ (k : Bor (List ℕ)). k.now) (λ key. V.Vouches key x.octets.now) c.args.keys.now vouched c.is_vouched_by_any-vouched.ensures in
    all_as list_order (HasListReason (rules_by p.moment false (vouching_alone (λ k i. IsTrue vouched))) [] (list_item x) (list_of x)) (HasReasonAmong (rules_by p.moment p.demand_lists V) keys (list_item x) (list_of x)) c.in_ok-found.found.items
    (rw c.moment-moment.ensures at c.in_ok-found.ensures.all) (among_iff p.moment p.demand_lists V vouched keys (list_item x) (list_of x) asked)

pub returns-clause-none : goal.returns-clause-none
returns-clause-none g c =
    let V = g.V.Vouch.vouches_for c.args.vouch.now in
    let p = c.args.policy.now in
    let x = c.args.list.now in
    let keys = map (λ (k : Bor (List ℕ)). k.now) c.args.keys.now in
    let vouched = c.is_vouched_by_any-vouched.result in
    let asked = any_mapped (λ (k : Bor (List ℕ)). k.now) (λ key. V.Vouches key x.octets.now) c.args.keys.now vouched c.is_vouched_by_any-vouched.ensures in
    let used = used_among_iff p.moment p.demand_lists V vouched keys x asked in
    let found = rw c.moment-moment.ensures at c.in_ok-found.ensures.none in
    (λ e. used.0 (found.0 e), λ a. found.1 (used.1 a))
