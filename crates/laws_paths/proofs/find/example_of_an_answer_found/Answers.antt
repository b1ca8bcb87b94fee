use Rattle.laws_paths.proofs.OfFound.{found, held_back}
use Rattle.laws_paths.proofs.find.example_of_an_answer_found.Goals as goal

pub returns-clause-found : goal.returns-clause-found
returns-clause-found c = found c.args.alloc

pub returns-clause-held_back : goal.returns-clause-held_back
returns-clause-held_back c = held_back c.args.alloc
