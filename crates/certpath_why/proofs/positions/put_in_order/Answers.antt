use lib.Dec.{eqb}
use Rattle.std.proofs.Common.{sym, subst}
use Rattle.std.specs.List.{Contains}
use Rattle.std.specs.List.Sorted.{IsStrictlyIncreasing}
use Rattle.std.proofs.lemmas.List.Filters.{dedup_is}
use Rattle.std.proofs.lemmas.List.Kept.{Contains-dedup_nat, Contains-from_dedup}
use Rattle.std.proofs.lemmas.List.Sorted.{Contains-permutation, IsPermutation-sym}
use Rattle.std.proofs.lemmas.Map.Keys.{IsStrictlyIncreasing-dedup}
use Rattle.certpath_why.proofs.positions.put_in_order.Goals as goal

pub returns-clause-ascend : goal.returns-clause-ascend
returns-clause-ascend c = subst IsStrictlyIncreasing (sym (dedup_is _ c.sort.new.self.items c.dedup.new.self.items c.dedup.ensures.filtered)) (IsStrictlyIncreasing-dedup c.sort.new.self.items c.in_ok-sort.ensures.sorted)

pub returns-clause-kept : goal.returns-clause-kept
returns-clause-kept c = λ p.
    let old = c.args.positions.now.items in
    let sorted = c.sort.new.self.items in
    let same = dedup_is _ sorted c.dedup.new.self.items c.dedup.ensures.filtered in (
      λ at. Contains-permutation sorted old p (IsPermutation-sym old sorted c.in_ok-sort.ensures.permutation) (Contains-from_dedup eqb sorted p (subst (λ l. Contains l p) same at)),
      λ at. subst (λ l. Contains l p) (sym same) (Contains-dedup_nat sorted p (Contains-permutation old sorted p c.in_ok-sort.ensures.permutation at)),
    )
