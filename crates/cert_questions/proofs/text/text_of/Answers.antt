use Rattle.std.proofs.Common.{◌≡◌, ◌∙◌, sym, ap, ℕ, ◌+◌, ◌<◌, ◌≤◌, List, ◌∷◌, ◌++◌, length, drop, append_assoc, get_or, add-one}
use Rattle.std.proofs.Math.Seq.{drop-cons}
use Rattle.std.proofs.lemmas.List.{append-nil, drop_all}
use Rattle.cert_questions.specs.declared.question.Question.{Question}
use Rattle.cert_questions.specs.Text.{question_line, question_lines}
use Rattle.cert_questions.proofs.text.text_of.Goals as goal

drop_next : {X : Type 0} (xs : List X) (k : ℕ) (d : X) → k < length xs → drop k xs ≡ get_or xs k d ∷ drop (k + 1) xs
drop_next xs k d lt = drop-cons xs k d lt ∙ ap (λ n. get_or xs k d ∷ drop n xs) (sym (add-one k))

pushed : (questions : List Question) (k : ℕ) (q : Question) (all text more : List ℕ) → k < length questions → text ++ question_lines (drop k questions) ≡ all → more ≡ text ++ question_line (get_or questions k q)
    → more ++ question_lines (drop (k + 1) questions) ≡ all
pushed questions k q all text more lt before is =
    ap (λ t. t ++ question_lines (drop (k + 1) questions)) is ∙ append_assoc text (question_line (get_or questions k q)) (question_lines (drop (k + 1) questions))
    ∙ sym (ap (λ l. text ++ question_lines l) (drop_next questions k q lt)) ∙ before

all_pushed : (questions : List Question) (k : ℕ) (all text : List ℕ) → length questions ≤ k → text ++ question_lines (drop k questions) ≡ all → text ≡ all
all_pushed questions k all text le before = sym (append-nil text) ∙ sym (ap (λ l. text ++ question_lines l) (drop_all k questions le)) ∙ before

pub loop-question-preserved : goal.loop-question-preserved
loop-question-preserved c = pushed c.args.questions.now c.loop-question.question-index _ _ _ _ c.loop-question-test.true c.loop-question.invariant c.in_ok-push_line.ensures

pub returns : goal.returns
returns c = all_pushed c.args.questions.now c.loop-question.question-index _ _ c.loop-question-test.false c.loop-question.invariant
