use Rattle.std.proofs.Common.{◌≡◌, ◌∙◌, ap, subst}
use Rattle.cert_vouchers.specs.declared.remembered.RememberedVouchers.{RememberedVouchers}
use Rattle.cert_graph.specs.Adequate.{IsAdequate, IsTrueAnswer}
use Rattle.cert_search.specs.Exact.{HasExactRows, IsShort}
use Rattle.cert_serving.specs.Demanding.{PermitsOf, ProcessesFor}
use Rattle.cert_serving.specs.Refusing.{are_permitted, are_processed}
use Rattle.certpath_c.proofs.Moved.{moved}
use Rattle.certpath_c.proofs.finding.answer_of.Goals as goal

pub returns : goal.returns
returns c =
    let policy = c.args.judged.now.policy in
    let target = c.args.settings.now.target in
    let inputs = c.in_ok-inputs.inputs in
    let items = inputs.items.items in
    let anchors = inputs.anchors.items in
    let permits = c.in_ok-permits.permits in
    let vouch = c.new-vouch.result in
    let answer = c.in_ok-answer.answer in
    let found = c.in_ok-answer.ensures in
    let pairs : vouch.vouch.now.vouchers.now ≡ inputs.vouchers = ap (λ (r : RememberedVouchers). r.vouchers.now) c.new-vouch.ensures.vouch ∙ c.remembered_of-remembered.ensures in
    let permitted = c.new-vouch.ensures.permit in
    record {
      items = inputs.items;
      anchor_items = inputs.anchors;
      pairs = inputs.vouchers;
      inputs = c.in_ok-inputs.ensures;
      permits = permits;
      are_permits = record {
        wanted = c.args.judged.now.wanted;
        is_wanted = c.requires;
        permitted = subst (λ d. PermitsOf d items (are_permitted permits)) c.demands_of-demands.ensures c.in_ok-permits.ensures.permits;
        processed = subst (λ d. ProcessesFor d (are_processed permits)) c.demands_of-demands.ensures c.in_ok-permits.ensures.processes;
      };
      adequate = moved policy vouch.vouch.now.vouchers.now inputs.vouchers vouch.permit.now permits items anchors (λ g. IsAdequate g target answer) pairs permitted found.adequate;
      holds = moved policy vouch.vouch.now.vouchers.now inputs.vouchers vouch.permit.now permits items anchors (λ g. IsTrueAnswer g target answer) pairs permitted found.holds;
      exact = moved policy vouch.vouch.now.vouchers.now inputs.vouchers vouch.permit.now permits items anchors (λ g. HasExactRows g answer) pairs permitted found.exact;
      short = moved policy vouch.vouch.now.vouchers.now inputs.vouchers vouch.permit.now permits items anchors (λ g. IsShort g answer) pairs permitted found.short;
      spelled = found.spelled;
    }
