use Rattle.x509_algorithms.proofs.signature.readable.Goals as goal

pub returns-in-Err-clause-only : goal.returns-in-Err-clause-only
returns-in-Err-clause-only c = λ v is. c.unreadable.ensures.memory (c.in-Err.ensures.only v is)
