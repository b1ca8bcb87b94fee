-- What `certpath_questions` returns.
use Rattle.std.specs.Prelude.{◌≡◌, ◌⊎◌, ℕ, ℤ, Bool, true, false, List, map, length}
use Rattle.cert_framing.specs.declared.ending.End.{End}
use Rattle.cert_framing.specs.Framing.{IsFraming}
use Rattle.cert_judge.specs.Classed.{AreClassed}
use Rattle.cert_judge.specs.Revoking.{Item}
use Rattle.cert_questions.specs.declared.question.KeyHolder.{KeyHolder}
use Rattle.cert_questions.specs.declared.question.KeyHolder.TheVariants as holders
use Rattle.cert_questions.specs.declared.question.Question.{Question}
use Rattle.cert_questions.specs.Questions.{AreQuestions}
use Rattle.certpath_c.specs.declared.asking.QuestionRow.{QuestionRow}
use Rattle.certpath_c.specs.Status.{done, out_of_memory, too_small}
use Rattle.certpath_c.specs.Writing.{Puts}

abbrev pub row_by : ℕ → KeyHolder → QuestionRow
row_by item (holders.Item holder) = record { item = item; holder = holder; is_anchor = 0 }
row_by item (holders.Anchor holder) = record { item = item; holder = holder; is_anchor = 1 }

-- a question as the header has it
abbrev pub row_of : Question → QuestionRow
row_of q = row_by q.item q.holder

-- octets that are cut into items, each with its class
pub record SplitsInto (octets : List ℕ) (limit : ℕ) (classed : List Item) : Type 0 where
  pub items : List (List ℕ)
  pub end : End
  pub framing : IsFraming limit octets items end
  pub are_classed : AreClassed items classed

-- all questions of the items and anchors, put into the buffer, or not, if they don't fit
pub record AreAsked (bundle anchors : List ℕ) (limit : ℕ) (rows rows' : List QuestionRow) (count' : ℕ) (fits : Bool) : Type 0 where
  pub classed : List Item
  pub classed_anchors : List Item
  pub items_cut : SplitsInto bundle limit classed
  pub anchors_cut : SplitsInto anchors limit classed_anchors
  pub questions : List Question
  pub are_questions : AreQuestions classed classed_anchors questions
  pub count_is : count' ≡ length questions
  pub written : Puts rows rows' (map row_of questions) fits

abbrev pub QuestionsAnswer : List ℕ → List ℕ → ℕ → List QuestionRow → List QuestionRow → ℕ → ℕ → ℤ → Type 0
QuestionsAnswer bundle anchors limit rows rows' count count' status =
    ((status ≡ done) × AreAsked bundle anchors limit rows rows' count' true)
    ⊎ ((status ≡ too_small) × AreAsked bundle anchors limit rows rows' count' false)
    ⊎ ((status ≡ out_of_memory) × (rows' ≡ rows) × (count' ≡ count))
