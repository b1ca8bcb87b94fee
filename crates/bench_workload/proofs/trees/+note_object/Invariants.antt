use Rattle.bench_workload.proofs.trees.+note_object.Given as goal

abbrev pub decreases-note_object : goal.decreases-note_object
decreases-note_object l = l.levels
