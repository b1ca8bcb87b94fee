use Rattle.std.proofs.Common.{ltb, ltb-true, ltb-false, arith, rules}
use Rattle.std.proofs.lemmas.List.Sorted.{IsPartitionPoint-from_clause, IsPartitionedBy-ltb}
use Rattle.certpath_why.specs.declared.ranges.Range.{Range}
use Rattle.certpath_why.proofs.Spacing.{lasts_rise}
use Rattle.certpath_why.proofs.cuts.count_before.Goals as goal

pub returns-clause-before : goal.returns-clause-before
returns-clause-before c = λ spaced.
    let parted = IsPartitionedBy-ltb (λ (r : Range). r.last) _ c.args.place (lasts_rise _ spaced) in
    let point = IsPartitionPoint-from_clause (λ (r : Range). ltb r.last c.args.place) _ _ c.partition_point.ensures.partitioned parted (λ a r q k. search rules) in
    λ k d h. ltb-true _ _ (point.0 k d (omega arith) h)

pub returns-clause-past : goal.returns-clause-past
returns-clause-past c = λ spaced.
    let parted = IsPartitionedBy-ltb (λ (r : Range). r.last) _ c.args.place (lasts_rise _ spaced) in
    let point = IsPartitionPoint-from_clause (λ (r : Range). ltb r.last c.args.place) _ _ c.partition_point.ensures.partitioned parted (λ a r q k. search rules) in
    λ d h. ltb-false _ _ (point.1 c.partition_point.result d (omega arith) h)
