use Rattle.std.specs.BTreeMap.{get}
use Rattle.cert_graph.proofs.Gathering.{R}
use Rattle.cert_questions.proofs.ByName.{NamedSoFar}
use Rattle.cert_questions.proofs.firsts.KeyHolders.new.Given as goal

abbrev pub invariant-loop-number : goal.invariant-loop-number
invariant-loop-number l = NamedSoFar l.all l.bucket-items l.number (get R l.numbers) l.firsts.items
