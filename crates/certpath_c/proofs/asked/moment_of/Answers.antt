use Rattle.certpath_c.proofs.asked.moment_of.Goals as goal

pub returns-in-Some-clause-found : goal.returns-in-Some-clause-found
returns-in-Some-clause-found c = record {
  is_moment = record { year = c.if-is_early.ensures.late; civil = c.in-Some.ensures.is };
  civil = c.in-Some.ensures.found;
}
