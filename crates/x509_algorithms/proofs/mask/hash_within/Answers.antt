use Rattle.x509_algorithms.proofs.AnswerLaws.{no_refusal}
use Rattle.x509_algorithms.proofs.mask.hash_within.Goals as goal

pub returns-in-Ok-clause-only : goal.returns-in-Ok-clause-only
returns-in-Ok-clause-only c = λ hash left is. (c.in-Ok.ensures.only hash left is).0

pub returns-in-Err-clause-only : goal.returns-in-Err-clause-only
returns-in-Err-clause-only c = λ hash left is. no_refusal c.in-Err.field-0 c.in-Err.ensures.memory (c.in-Err.ensures.only hash left is)
