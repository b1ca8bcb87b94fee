use Rattle.std.proofs.Common.{◌++◌}
use Rattle.cert_model.specs.Octets.{sequence_octets}
use Rattle.cert_judge.proofs.WindowFacts.{sequence_part}
use Rattle.cert_judge.proofs.windows.tbs_of.Goals as goal

pub returns-in_err-content : goal.returns-in_err-content
returns-in_err-content c = λ content rest e.
    let x = c.whole.ensures.only (sequence_octets content ++ rest) e in
    let y = rw c.in_err-content.was at x in absurd y

pub returns-in_err-tbs : goal.returns-in_err-tbs
returns-in_err-tbs c = λ content rest e.
    let x = c.in_ok-content.ensures.only (sequence_octets content ++ rest) e in
    let y = c.first_part.ensures (sequence_octets content) rest (sequence_part content) x in
    let z = rw c.in_err-tbs.was at y in absurd z

pub returns : goal.returns
returns c = λ content rest e.
    let x = c.in_ok-content.ensures.only (sequence_octets content ++ rest) e in
    let y = c.in_ok-tbs.ensures (sequence_octets content) rest (sequence_part content) x in
    c.whole-2.ensures.only content y.0
