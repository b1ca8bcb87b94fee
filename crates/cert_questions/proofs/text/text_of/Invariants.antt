use Rattle.std.proofs.Common.{◌≡◌, ◌++◌, drop, string_bytes}
use Rattle.cert_questions.specs.Text.{question_lines}
use Rattle.cert_questions.proofs.text.text_of.Given as goal

abbrev pub invariant-loop-question : goal.invariant-loop-question
invariant-loop-question l = string_bytes l.text ++ question_lines (drop l.question-index l.questions) ≡ question_lines l.questions
