use Rattle.std.proofs.Common.{◌≡◌, ◌≢◌, ◌∙◌, ◌-◌, List, [], ◌∷◌, ◌++◌, map, take, Vec, Global, sym, ap, subst}
use Rattle.std.specs.Cmp.Lexicographic.{same_text, other_text}
use Rattle.std.specs.List.{AllByRecursion}
use Rattle.std.proofs.lemmas.List.{append-nil, map-append}
use Rattle.cert_graph.specs.declared.changes.Change.{Change}
use Rattle.certpath_evidence.specs.Evidence.{said_by, row_line, header, lines_after, FitsChange}
use Rattle.certpath_evidence.proofs.Pieces.{on_ok, if_err}
use Rattle.certpath_evidence.proofs.SoFar.{weaker}
use Rattle.certpath_evidence.proofs.Standing.{none_after_verdicts, none_after_rows, row_added, row_fits_more}
use Rattle.certpath_evidence.proofs.reading.add_line.Goals as goal

abbrev rows_in : List (Vec Change Global) → List (List Change)
rows_in steps = map (λ s. s.items) steps

pub returns-then-eq-clause-added : goal.returns-then-eq-clause-added
returns-then-eq-clause-added c =
    let line = c.args.line.now in
    let is : line ≡ row_line = same_text line row_line (sym c.if-eq.true ∙ c.eq.ensures) in
    let vs = map said_by c.args.inventory.now.verdicts.items in
    let rows = rows_in c.args.inventory.now.steps.items in
    on_ok c.add_row.result _ _ (λ e. ap (λ z. header ∷ lines_after vs z) e ∙ ap (λ z. header ∷ z) (row_added vs rows) ∙ ap (λ z. header ∷ (lines_after vs rows ++ z ∷ [])) (sym is)) c.add_row.ensures.added

pub returns-in-None-clause-refused : goal.returns-in-None-clause-refused
returns-in-None-clause-refused c =
    let line = c.args.line.now in
    let steps = c.args.inventory.now.steps in
    let other : line ≢ row_line = other_text line row_line (sym c.if-eq.false ∙ c.eq.ensures) in
    let none : steps.items ≡ [] = c.in-None.ensures.items ∙ append-nil c.pop.new.self.items ∙ c.in-None.ensures.rest ∙ ap (λ n. take (n - 1) steps.items) c.in-None.ensures.cases.0 in
    if_err c.add_verdict.result _ _ (weaker _ _ c.args.number (none_after_verdicts (map said_by c.args.inventory.now.verdicts.items) (rows_in steps.items) line (ap rows_in none) other)) c.add_verdict.ensures.refused

pub returns-in-Some-clause-fits : goal.returns-in-Some-clause-fits
returns-in-Some-clause-fits c =
    let step = c.in-Some.step in
    let front = c.pop.new.self.items in
    let is = ap rows_in c.in-Some.ensures.items ∙ map-append (λ (s : Vec Change Global). s.items) front (step ∷ []) in
    on_ok c.add_change.result _ _ (λ t. record {
      verdicts = c.requires.verdicts;
      rows = subst (λ (z : List (List Change)). AllByRecursion (AllByRecursion FitsChange) z) (sym t.3) (row_fits_more (rows_in front) step.items t.0 (subst (λ (z : List (List Change)). AllByRecursion (AllByRecursion FitsChange) z) is c.requires.rows) t.1);
    }) c.add_change.ensures.added

pub returns-in-Some-clause-refused : goal.returns-in-Some-clause-refused
returns-in-Some-clause-refused c =
    let line = c.args.line.now in
    let step = c.in-Some.step in
    let front = c.pop.new.self.items in
    let steps = c.args.inventory.now.steps in
    let other : line ≢ row_line = other_text line row_line (sym c.if-eq.false ∙ c.eq.ensures) in
    let is = ap rows_in c.in-Some.ensures.items ∙ map-append (λ (s : Vec Change Global). s.items) front (step ∷ []) in
    if_err c.add_change.result _ _ (weaker _ _ c.args.number (none_after_rows (map said_by c.args.inventory.now.verdicts.items) (rows_in steps.items) (rows_in front) step.items line is other)) c.add_change.ensures.refused
