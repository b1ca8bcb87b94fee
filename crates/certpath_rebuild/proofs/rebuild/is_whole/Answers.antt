use Rattle.std.proofs.Common.{sym, []}
use Rattle.certpath_rebuild.proofs.rebuild.is_whole.Goals as goal

pub returns-in-None : goal.returns-in-None
returns-in-None g c = (λ never. cc, λ same. absurd (c.in-None.ensures [] (sym same)))
