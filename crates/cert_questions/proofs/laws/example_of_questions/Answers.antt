use Rattle.cert_questions.proofs.Worked.{issuer_asked, agreeing, third_vouched, third_not_before}
use Rattle.cert_questions.proofs.laws.example_of_questions.Goals as goal

pub returns : goal.returns
returns c = record { question = issuer_asked; premise = agreeing; more = third_vouched; before = third_not_before }
