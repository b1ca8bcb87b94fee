use Rattle.std.proofs.Common.{refl}
use Rattle.certpath_engine.proofs.WordLemmas.{paths_values}
use Rattle.certpath_engine.proofs.texts.paths_texts.Goals as goal

pub returns-in-Ok : goal.returns-in-Ok
returns-in-Ok c = (refl, paths_values c.args.found.now _ c.get_str-evidence.ensures c.in-Ok.ensures)
