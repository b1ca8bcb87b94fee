-- Numbers that are no answer.
use Rattle.std.proofs.Common.{◌≡◌, ◌∙◌, ℕ, List, [], length, ap, sym}
use Rattle.cert_graph.specs.declared.answer.Answer.{Answer}
use Rattle.cert_graph.specs.declared.answer.Answer.TheVariants.{Path, NoPath, NoTarget}
use Rattle.cert_graph.specs.Adequate.{rows_of}
use Rattle.certpath_c.specs.declared.answers.AnswerRow.{AnswerRow}
use Rattle.certpath_c.specs.Answers.{AreNoRows, AreNoAnswer}

pub other_length : (width : ℕ) (row : AnswerRow) (positions entries : List ℕ) → (row.length ≡ length positions → ⊥) → AreNoAnswer width row positions entries
other_length width row positions entries differ answer is = differ (is.is_row.length_is ∙ ap length is.positions_are)

pub other_entries : (width : ℕ) (row : AnswerRow) (positions entries : List ℕ) → (row.entries ≡ length entries → ⊥) → AreNoAnswer width row positions entries
other_entries width row positions entries differ answer is = differ (is.is_row.entries ∙ ap length is.entries_are)

pub no_table : (width : ℕ) (row : AnswerRow) (positions entries : List ℕ) → AreNoRows width entries → AreNoAnswer width row positions entries
no_table width row positions entries none (Path ps a table) is = none (rows_of table) (record { entries_are = is.entries_are; whole = is.whole; fit = is.fits })
no_table width row positions entries none (NoPath table) is = none (rows_of table) (record { entries_are = is.entries_are; whole = is.whole; fit = is.fits })
no_table width row positions entries none NoTarget is = none [] (record { entries_are = is.entries_are; whole = tt; fit = tt })

-- another outcome than a path, beside what a path alone has
pub something_of_a_path : (width : ℕ) (row : AnswerRow) (positions entries : List ℕ) → (row.outcome ≡ 0 → ⊥) → (row.anchor ≡ 0 → positions ≡ [] → ⊥) → AreNoAnswer width row positions entries
something_of_a_path width row positions entries other some (Path ps a table) is = other is.is_row.outcome
something_of_a_path width row positions entries other some (NoPath table) is = some is.is_row.anchor (sym is.positions_are)
something_of_a_path width row positions entries other some NoTarget is = some is.is_row.anchor (sym is.positions_are)

-- an outcome that there isn't, or no target, beside a table
pub no_outcome : (width : ℕ) (row : AnswerRow) (positions entries : List ℕ) → (row.outcome ≡ 0 → ⊥) → (row.outcome ≡ 1 → ⊥) → (row.outcome ≡ 2 → entries ≡ [] → ⊥) → AreNoAnswer width row positions entries
no_outcome width row positions entries path none target (Path ps a table) is = path is.is_row.outcome
no_outcome width row positions entries path none target (NoPath table) is = none is.is_row.outcome
no_outcome width row positions entries path none target NoTarget is = target is.is_row.outcome (sym is.entries_are)
