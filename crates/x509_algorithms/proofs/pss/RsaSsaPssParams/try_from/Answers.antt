use Rattle.std.proofs.Common.{◌≡◌, ◌∙◌, rules}
use Rattle.asn1_any.specs.Views.{any_of}
use Rattle.x509_algorithms.specs.Answers.{HasPartBelow}
use Rattle.x509_algorithms.specs.Reading.{pss_parts_at}
use Rattle.x509_algorithms.proofs.AnswerLaws.{memory_held, parameters_fail, held_wants}
use Rattle.x509_algorithms.proofs.pss.RsaSsaPssParams.try_from.Goals as goal

pub returns-in-Ok-clause-only : goal.returns-in-Ok-clause-only
returns-in-Ok-clause-only c = λ v is. (c.in-Ok.ensures.only v is.left is.inner).0

pub returns-in-Err-clause-only : goal.returns-in-Err-clause-only
returns-in-Err-clause-only c = λ v is. c.from.ensures ∙ memory_held c.in-Err.refusal (c.in-Err.ensures.only v is.left is.inner)

pub returns-in-Err-clause-exact : goal.returns-in-Err-clause-exact
returns-in-Err-clause-exact c =
    let tag : (any_of c.args.any).tag ≡ 16 = search rules in
    parameters_fail pss_parts_at (any_of c.args.any) c.in-Err.refusal c.from.result tag c.from.ensures c.in-Err.ensures.exact

pub returns-in-Err-clause-memory : goal.returns-in-Err-clause-memory
returns-in-Err-clause-memory c = λ memory.
    let tag : (any_of c.args.any).tag ≡ 16 = search rules in
    (tag, held_wants (HasPartBelow 2 c.args.any.content.now) c.in-Err.refusal c.from.result (pss_parts_at c.args.any.content.now) c.from.ensures c.in-Err.ensures.exact c.in-Err.ensures.memory memory)
