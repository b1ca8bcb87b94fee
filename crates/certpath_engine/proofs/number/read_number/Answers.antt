use Rattle.std.proofs.Common.{rules}
use Rattle.certpath_engine.proofs.NumberLemmas.{number_found, number_only}
use Rattle.certpath_engine.proofs.number.read_number.Goals as goal

pub returns-clause-found : goal.returns-clause-found
returns-clause-found c = number_found _ _ _ c.parse.ensures.value.0 (search rules) c.ok.ensures.value

pub returns-clause-only : goal.returns-clause-only
returns-clause-only c = number_only _ _ _ c.parse.ensures.value.0 c.ok.ensures.value
