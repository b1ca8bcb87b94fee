use Rattle.cert_faults.proofs.elements.+first_broken.Given as goal

abbrev pub decreases-first_broken : goal.decreases-first_broken
decreases-first_broken l = l.levels
