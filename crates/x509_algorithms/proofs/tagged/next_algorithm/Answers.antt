use Rattle.std.proofs.Common.{◌≡◌, subst, List, ℕ, Bor, Option, Some, Ok, option_map}
use Rattle.x509_algorithms.specs.Answers.{HasPart, WantsFor}
use Rattle.x509_algorithms.specs.Reading.{tagged_content}
use Rattle.x509_algorithms.proofs.AnswerLaws.{passed_on, none_wanted, wanted_so}
use Rattle.x509_algorithms.proofs.tagged.next_algorithm.Goals as goal

pub returns-in_err-rest-clause-memory : goal.returns-in_err-rest-clause-memory
returns-in_err-rest-clause-memory c =
    passed_on c.from_residual.result c.in_err-rest.field-0.0 (WantsFor (HasPart c.args.tag c.args.i.now)) c.from_residual.ensures.1
    (none_wanted (HasPart c.args.tag c.args.i.now) c.in_err-rest.field-0.0 c.in_err-rest.ensures.memory)

-- a content that is there
abbrev There : Option (Bor (List ℕ)) → Type 0
There content = (d : List ℕ) × (option_map (λ (z : Bor (List ℕ)). z.now) content ≡ Some d)

there_part : (n : ℕ) (i r : List ℕ) (content : Option (Bor (List ℕ))) → tagged_content n i ≡ Ok (option_map (λ (z : Bor (List ℕ)). z.now) content, r) → There content → HasPart n i
there_part n i r content read there = (there.0, r, subst (λ (z : Option (List ℕ)). tagged_content n i ≡ Ok (z, r)) there.1 read)

pub returns-in_err-algorithm-clause-memory : goal.returns-in_err-algorithm-clause-memory
returns-in_err-algorithm-clause-memory c =
    passed_on c.from_residual-in_err-algorithm.result c.in_err-algorithm.field-0.0 (WantsFor (HasPart c.args.tag c.args.i.now)) c.from_residual-in_err-algorithm.ensures.1
    (wanted_so (There c.in_ok-rest.content) (HasPart c.args.tag c.args.i.now) c.in_err-algorithm.field-0.0
    (there_part c.args.tag c.args.i.now c.in_ok-rest.rest.now c.in_ok-rest.content c.in_ok-rest.ensures.read) c.in_err-algorithm.ensures.memory)
