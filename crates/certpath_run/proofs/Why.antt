-- What prevents a path, of what was read.
use Rattle.std.proofs.Common.{◌≡◌, ◌∙◌, ◌++◌, ap, subst, append_assoc, ℕ, Bool, true, List}
use Rattle.cert_framing.specs.Held.{Framed}
use Rattle.cert_graph.specs.declared.answer.Answer.{Answer}
use Rattle.cert_judge.specs.Classed.{AreClassed}
use Rattle.cert_judge.specs.ItemGraph.{graph_of_items}
use Rattle.cert_judge.specs.JudgedItems.{AreJudged}
use Rattle.cert_judge.specs.Revoking.{Item, JudgingContext}
use Rattle.cert_judge.specs.declared.judged.JudgedItem.{JudgedItem}
use Rattle.cert_model.specs.Fields.{CivilTime}
use Rattle.certpath_find.specs.Answered.{IsFound}
use Rattle.certpath_find.proofs.Answering.{one_classing}
use Rattle.certpath_inputs.specs.Check.{check_line}
use Rattle.certpath_inputs.specs.Demands.{demand_lines}
use Rattle.certpath_inputs.specs.declared.demand.Demand.{Demand}
use Rattle.certpath_why.specs.Why.{AppendsWhyFor}
use Rattle.fault_texts.specs.FaultLines.{AppendsFaults}
use Rattle.certpath_run.specs.Report.{answer_line}
use Rattle.certpath_run.specs.Runs.{IsWhyReportWith, kind_of}
use Rattle.certpath_run.specs.declared.settings.Outcome.{Outcome}

pub reported : (demand : Demand) (r search : JudgingContext) (items anchors : Framed) (target : ℕ) (xs ys read roots : List Item) (answer : Answer) (said : Bool) (faulted text : List ℕ) (outcome : Outcome)
    → AreClassed items.items xs → AreClassed anchors.items ys → AreClassed items.items read → AreClassed anchors.items roots
    → (said ≡ true) × IsFound (graph_of_items search xs ys) target answer
    → AppendsFaults read target roots (demand_lines demand ++ (answer_line answer ++ check_line said)) faulted → AppendsWhyFor demand r search read roots target answer faulted text → outcome ≡ kind_of answer → IsWhyReportWith demand r search items anchors target text outcome
reported demand r search items anchors target xs ys read roots answer said faulted text outcome xs_are ys_are read_are roots_are holds faults told is =
    let same : xs ≡ read = one_classing items.items xs read xs_are read_are in
    let same_anchors : ys ≡ roots = one_classing anchors.items ys roots ys_are roots_are in
    let why = told.0 in
    let lines_of = faults.0 in
    let lines = demand_lines demand in
    record {
      classed = read;
      classed_anchors = roots;
      answer = answer;
      are_classed = read_are;
      anchors_are_classed = roots_are;
      found = subst (λ l. IsFound (graph_of_items search l roots) target answer) same (subst (λ l. IsFound (graph_of_items search xs l) target answer) same_anchors holds.1);
      faults = lines_of;
      faults_are = faults.2;
      why = why;
      is_why = told.2;
      text_is = told.1 ∙ ap (λ t. t ++ why) faults.1 ∙ append_assoc (lines ++ (answer_line answer ++ check_line said)) lines_of why
          ∙ append_assoc lines (answer_line answer ++ check_line said) (lines_of ++ why)
          ∙ ap (λ t. lines ++ t) (append_assoc (answer_line answer) (check_line said) (lines_of ++ why) ∙ ap (λ b. answer_line answer ++ (check_line b ++ (lines_of ++ why))) holds.0);
      outcome_is = is;
    }

-- items that were read twice have one judgement
pub judged_as_read : (moment : CivilTime) (octets : List (List ℕ)) (xs read : List Item) (judged : List JudgedItem) → AreClassed octets xs → AreClassed octets read → AreJudged moment xs judged → AreJudged moment read judged
judged_as_read moment octets xs read judged xs_are read_are is = subst (λ l. AreJudged moment l judged) (one_classing octets xs read xs_are read_are) is
