use Rattle.bench_item.proofs.elements.+count_levels.Given as goal

abbrev pub decreases-count_levels : goal.decreases-count_levels
decreases-count_levels l = l.levels

abbrev pub invariant-loop-any : goal.invariant-loop-any
invariant-loop-any l =
    (goal.iterator-loop-any).can_next l.any-iterator ×
    (goal.iterator-loop-any).is_finite l.any-iterator
