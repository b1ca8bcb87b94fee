use Rattle.certpath_engine.proofs.WordLemmas.{refused_host}
use Rattle.certpath_engine.proofs.demands.host_of.Goals as goal

pub returns-in-Err-clause-refused : goal.returns-in-Err-clause-refused
returns-in-Err-clause-refused c = refused_host _ _ _ _ c.in-Some.is c.as_bytes.ensures.value c.in-Err.ensures
