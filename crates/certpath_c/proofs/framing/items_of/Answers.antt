use Rattle.std.proofs.Common.{sym, subst, ◌∙◌, ℕ, List, [], ◌++◌}
use Rattle.cert_framing.specs.Framing.{IsFraming}
use Rattle.certpath_c.proofs.Spans.{fed}
use Rattle.certpath_c.proofs.framing.items_of.Goals as goal

pub returns : goal.returns
returns c =
    let front = c.split_at.result.0.now in
    let rest = c.split_at.result.1.now in
    let items = c.in-Ok.items in
    let s = fed c.feed.result _ _ [] front c.feed.ensures.ok (sym c.is_err.ensures.value ∙ c.if-is_err.false) c.new-bundle.ensures.empty in
    let t = fed c.feed-2.result _ _ front rest c.feed-2.ensures.ok (sym c.is_err-2.ensures.value ∙ c.if-is_err-2.false) s in
    let limited = subst (λ (l : ℕ). IsFraming l (front ++ rest) items.items items.end) (c.feed-2.ensures.limit ∙ c.feed.ensures.limit ∙ c.new-bundle.ensures.limit) (c.in-Ok.ensures.framing (front ++ rest) t) in
    subst (λ (o : List ℕ). IsFraming c.args.limit o items.items items.end) (sym c.split_at.ensures.by_index.0) limited
