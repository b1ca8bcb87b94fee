use Rattle.std.proofs.Common.{◌≡◌, ap, List, ℕ, Bor, Some, option_map}
use Rattle.x509_algorithms.proofs.AnswerLaws.{is_wanted}
use Rattle.x509_algorithms.proofs.tagged.inner_algorithm.Goals as goal

pub returns-in-Err-clause-memory : goal.returns-in-Err-clause-memory
returns-in-Err-clause-memory c =
    is_wanted ((d : List ℕ) × (option_map (λ (z : Bor (List ℕ)). z.now) c.args.content ≡ Some d)) c.within.result
    (c.in-Some.content.now, ap (option_map (λ (z : Bor (List ℕ)). z.now)) c.in-Some.is)
