use Rattle.std.specs.Prelude.{◌≡◌, IsTrue}
use Rattle.std.proofs.Common.{map, true}
use Rattle.std.specs.List.{Any, Contains}
use Rattle.cert_judge.specs.Items.{certificate_of, certificate_item, item_of, rules_by}
use Rattle.cert_judge.specs.Revoking.{HasUsedList}
use Rattle.cert_reasons.specs.declared.links.Findings.{Findings}
use Rattle.cert_reasons.specs.declared.links.Unlinked.{Unlinked}
use Rattle.cert_reasons.specs.Found.{HasFoundReason}
use Rattle.cert_reasons.specs.Links.{HasLinkReason, link_order}
use Rattle.cert_reasons.specs.Listed.{ArePlaces, IsVouchedAt, places_in}
use Rattle.cert_reasons.proofs.Listing.{used_iff, found_iff, lacking_iff, there_demanded}
use Rattle.cert_reasons.proofs.Marks.{linked}
use Rattle.cert_reasons.proofs.OfLinks.{no_reason}
use Rattle.cert_reasons.proofs.Ordered.{all_as, empty_iff}
use Rattle.cert_reasons.proofs.links.why_unlinked_under.Goals as goal

pub returns-clause-all : goal.returns-clause-all
returns-clause-all g c =
    let V = g.V.Vouch.vouches_for c.args.vouch.now in
    let p = c.args.policy.now in
    let signer = c.args.signer.now in
    let xs = c.args.items.now in
    let l = c.args.listed.now in
    let x = c.args.certificate.now in
    let r = rules_by p.moment p.demand_lists V in
    let against = c.as_slice-revoking.result in
    let f : Findings = record { vouched = c.vouches-vouched.result; agree = signer.agree; revoking = against; lacking = c.is_lacking-lacking.result } in
    let C = IsVouchedAt V xs signer.key.now in
    let revoking : ArePlaces (λ q. Contains l.revoking.items q × C q) against.now = rw c.as_slice-revoking.ensures.value (rw c.deref.ensures.value at c.in_ok-against.ensures) in
    let used = used_iff V p.moment p.demand_lists signer.name.now signer.key.now xs (places_in l.in_force) c.requires.in_force in
    let lacking = lacking_iff c.is_lacking-lacking.result (p.demand_lists ≡ true) (Any C (places_in l.in_force)) (HasUsedList r (map item_of xs) signer.name.now signer.key.now) used
    (rw c.as_slice-in_force.ensures at c.is_lacking-lacking.ensures.lacking) (rw c.as_slice-in_force.ensures at c.is_lacking-lacking.ensures.listed) in
    let same = found_iff V p.moment p.demand_lists signer.name.now signer.key.now f xs l (certificate_item x) (certificate_of x) c.requires c.vouches-vouched.ensures revoking lacking in
    let Reason : Unlinked → Type 0 = HasLinkReason r (map item_of xs) (certificate_item x) (certificate_of x) signer.name.now signer.key.now (IsTrue signer.agree) in
    all_as link_order (HasFoundReason f) Reason c.in_ok-found.found.items c.in_ok-found.ensures same

pub returns-clause-none : goal.returns-clause-none
returns-clause-none g c = λ named.
    let V = g.V.Vouch.vouches_for c.args.vouch.now in
    let p = c.args.policy.now in
    let signer = c.args.signer.now in
    let xs = c.args.items.now in
    let l = c.args.listed.now in
    let x = c.args.certificate.now in
    let r = rules_by p.moment p.demand_lists V in
    let against = c.as_slice-revoking.result in
    let f : Findings = record { vouched = c.vouches-vouched.result; agree = signer.agree; revoking = against; lacking = c.is_lacking-lacking.result } in
    let C = IsVouchedAt V xs signer.key.now in
    let revoking : ArePlaces (λ q. Contains l.revoking.items q × C q) against.now = rw c.as_slice-revoking.ensures.value (rw c.deref.ensures.value at c.in_ok-against.ensures) in
    let used = used_iff V p.moment p.demand_lists signer.name.now signer.key.now xs (places_in l.in_force) c.requires.in_force in
    let lacks = rw c.as_slice-in_force.ensures at c.is_lacking-lacking.ensures.lacking in
    let has = rw c.as_slice-in_force.ensures at c.is_lacking-lacking.ensures.listed in
    let Has = HasUsedList r (map item_of xs) signer.name.now signer.key.now in
    let lacking = lacking_iff c.is_lacking-lacking.result (p.demand_lists ≡ true) (Any C (places_in l.in_force)) Has used lacks has in
    let same = found_iff V p.moment p.demand_lists signer.name.now signer.key.now f xs l (certificate_item x) (certificate_of x) c.requires c.vouches-vouched.ensures revoking lacking in
    let Reason : Unlinked → Type 0 = HasLinkReason r (map item_of xs) (certificate_item x) (certificate_of x) signer.name.now signer.key.now (IsTrue signer.agree) in
    let all = all_as link_order (HasFoundReason f) Reason c.in_ok-found.found.items c.in_ok-found.ensures same in
    let empty = empty_iff link_order Reason c.in_ok-found.found.items all in (
      λ e. linked V p.moment p.demand_lists (map item_of xs) (certificate_item x) (certificate_of x) signer.name.now signer.key.now c.vouches-vouched.result signer.agree named c.vouches-vouched.ensures
          (there_demanded c.is_lacking-lacking.result (p.demand_lists ≡ true) (Any C (places_in l.in_force)) Has used lacks has) (empty.0 e),
      λ i. empty.1 (λ reason s. no_reason r (map item_of xs) (certificate_item x) (certificate_of x) signer.name.now signer.key.now (IsTrue signer.agree) reason i.0 i.1 s),
    )
