use Rattle.laws_judge.proofs.OfQuestions.{agreeing}
use Rattle.laws_judge.proofs.questions.example_of_questions_by.Goals as goal

pub returns : goal.returns
returns c = agreeing
