use Rattle.std.specs.Prelude.{◌↔◌}
use Rattle.std.proofs.Common.{◌≡◌, ◌∙◌, ap, subst, IsTrue}
use Rattle.cert_vouchers.specs.declared.remembered.RememberedVouchers.{RememberedVouchers}
use Rattle.cert_graph.specs.Adequate.{IsAdequate, IsTrueAnswer}
use Rattle.cert_serving.specs.Demanding.{PermitsOf, ProcessesFor}
use Rattle.cert_serving.specs.Refusing.{are_permitted, are_processed}
use Rattle.certpath_c.specs.Answers.{IsAnswerOf, AreNoAnswer}
use Rattle.certpath_c.proofs.Moved.{moved}
use Rattle.certpath_c.proofs.checking.checked.Goals as goal

pub returns-in_default : goal.returns-in_default
returns-in_default c =
    let given = c.args.given.now in
    let none = rw c.in_default.is at c.in_ok-found.ensures.none in
    record {
      found = tt;
      none = record {
        items = c.in_ok-inputs.inputs.items;
        framing = c.in_ok-inputs.ensures.framing;
        none = subst (λ w. AreNoAnswer w given.row given.positions.now given.entries.now) c.len-width.ensures.len none;
      };
    }

pub returns : goal.returns
returns c =
    let policy = c.args.judged.now.policy in
    let target = c.args.settings.now.target in
    let given = c.args.given.now in
    let inputs = c.in_ok-inputs.inputs in
    let items = inputs.items.items in
    let anchors = inputs.anchors.items in
    let permits = c.in_ok-permits.permits in
    let vouch = c.new-vouch.result in
    let answer = c.in-Some.answer in
    let said = c.in_ok-said.said in
    let is = rw c.in-Some.is at c.in_ok-found.ensures.found in
    let pairs : vouch.vouch.now.vouchers.now ≡ inputs.vouchers = ap (λ (r : RememberedVouchers). r.vouchers.now) c.new-vouch.ensures.vouch ∙ c.remembered_of-remembered.ensures in
    let permitted = c.new-vouch.ensures.permit in
    record {
      found = record {
        items = inputs.items;
        anchor_items = inputs.anchors;
        pairs = inputs.vouchers;
        inputs = c.in_ok-inputs.ensures;
        permits = permits;
        are_permits = record {
          wanted = c.args.judged.now.wanted;
          is_wanted = c.requires;
          permitted = subst (λ d. PermitsOf d items (are_permitted permits)) c.demands_of-demands.ensures c.in_ok-permits.ensures.permits;
          processed = subst (λ d. ProcessesFor d (are_processed permits)) c.demands_of-demands.ensures c.in_ok-permits.ensures.processes;
        };
        answer = answer;
        is_answer = subst (λ w. IsAnswerOf w given.row given.positions.now given.entries.now answer) c.len-width.ensures.len is;
        exact = moved policy vouch.vouch.now.vouchers.now inputs.vouchers vouch.permit.now permits items anchors (λ g. IsTrue said ↔ IsAdequate g target answer) pairs permitted c.in_ok-said.ensures.exact;
        holds = moved policy vouch.vouch.now.vouchers.now inputs.vouchers vouch.permit.now permits items anchors (λ g. IsTrue said → IsTrueAnswer g target answer) pairs permitted c.in_ok-said.ensures.holds;
      };
      none = tt;
    }
