use Rattle.cert_judge.proofs.windows.+rest_after.Given as goal

abbrev pub decreases-rest_after : goal.decreases-rest_after
decreases-rest_after l = l.count
