use Rattle.std.proofs.Common.{refl}
use Rattle.cert_judge.proofs.Mapped.{not_both}
use Rattle.certpath_why.proofs.Holding.{none_first, none_more, none_row, some_row, row_within}
use Rattle.certpath_why.proofs.holders.Holders.has_position.Goals as goal

pub has_named-requires : goal.has_named-requires
has_named-requires c = row_within c.args.self.now c.args.number c.row_at-row.result.now c.loop-holder.holder-index c.requires.number (rw c.deref.ensures.value at c.row_at-row.ensures) c.requires.within c.loop-holder-test.true

pub loop-holder-init : goal.loop-holder-init
loop-holder-init c = none_first c.args.self.now c.row_at-row.result.now c.args.name.now

pub loop-holder-preserved : goal.loop-holder-preserved
loop-holder-preserved c = none_more c.args.self.now c.row_at-row.result.now c.args.name.now c.loop-holder.holder-index c.loop-holder-test.true c.loop-holder.invariant (λ w n. not_both _ (c.has_named.ensures.1 (w, n)) c.if-has_named.false)

pub returns-then-has_named : goal.returns-then-has_named
returns-then-has_named c = (
  λ t. let s = c.has_named.ensures.0 c.if-has_named.true in (s.0, some_row c.args.self.now c.args.number c.row_at-row.result.now c.args.name.now c.loop-holder.holder-index s.0 c.loop-holder-test.true (rw c.deref.ensures.value at c.row_at-row.ensures) s.1),
  λ h. refl,
)

pub returns : goal.returns
returns c = (
  λ t. absurd (not_both _ t refl),
  λ h. absurd (none_row c.args.self.now c.args.number c.row_at-row.result.now c.args.name.now c.loop-holder.holder-index c.requires.number c.loop-holder-test.false (rw c.deref.ensures.value at c.row_at-row.ensures) c.loop-holder.invariant h.0 h.1),
)
