use Rattle.std.proofs.Common.{arith}
use Rattle.cert_model.proofs.PartFacts.{front_at}
use Rattle.certcheck.proofs.windows.front_of.Goals as goal

pub returns : goal.returns
returns c = λ front e. front_at c.args.window.now front c.args.rest.now c.saturating_sub.result e (omega arith)
