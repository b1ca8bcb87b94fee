-- The three ways out.
use Rattle.std.proofs.Common.{◌≡◌, true, inl, inr}
use Rattle.cert_graph.specs.Tables.{IsClosed}
use Rattle.cert_graph.proofs.TableFacts.{refuted, granted, no_anchor, some_anchor}
use Rattle.cert_graph.proofs.shown.is_closed.Goals as goal

pub returns-then-not-is_usable : goal.returns-then-not-is_usable
unfolding IsClosed
returns-then-not-is_usable c = λ rows h within. granted (inl (λ u. let yes : c.is_usable.result ≡ true = c.is_usable.ensures.1 u in cc))

pub returns-then-has_anchor : goal.returns-then-has_anchor
unfolding IsClosed
returns-then-has_anchor c = λ rows h within. refuted (λ x. elim x [
  | inl unusable ↦ unusable (c.is_usable.ensures.0 c.if-not-is_usable.false)
  | inr y ↦ some_anchor c.args.nodes.now c.args.target c.has_anchor.result c.has_anchor.ensures c.if-has_anchor.true y.0
])

pub returns : goal.returns
unfolding IsClosed
returns c = λ rows h within. (
  λ t. inr (no_anchor c.args.nodes.now c.args.target c.has_anchor.result c.has_anchor.ensures c.if-has_anchor.false, (c.is_shut.ensures c.args.nodes.now rows h within).0 t),
  λ x. elim x [
    | inl unusable ↦ absurd (unusable (c.is_usable.ensures.0 c.if-not-is_usable.false))
    | inr y ↦ (c.is_shut.ensures c.args.nodes.now rows h within).1 y.1
  ],
)
