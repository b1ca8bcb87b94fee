-- What a run does to its readers and its writer. If a device's octets are unknown, the relations
-- hold for some stream.
use Rattle.std.specs.Prelude.{◌≡◌, ℕ, true, List, [], ◌++◌, Option, None}
use Rattle.std.specs.Io.KnownBytes.{Appends}
use Rattle.asn1_device.specs.Counts.{AppendsFront}
use Rattle.cert_framing.specs.Held.{Framed}
use Rattle.cert_graph.specs.declared.answer.Answer.{Answer}
use Rattle.cert_graph.specs.declared.answer.Answer.TheVariants as answers
use Rattle.cert_graph.specs.Adequate.{IsTrueAnswer}
use Rattle.cert_judge.specs.Classed.{AreClassed}
use Rattle.cert_judge.specs.ItemGraph.{graph_of_items}
use Rattle.cert_judge.specs.Items.{rules_by}
use Rattle.cert_judge.specs.Revoking.{Item, JudgingContext}
use Rattle.cert_judge.specs.Vouching.{Vouching, processing_too}
use Rattle.certpath_inputs.specs.cert_serving.specs.Refusing.{are_processed}
use Rattle.certpath_inputs.specs.cert_serving.specs.declared.permits.Permits.{Permits}
use Rattle.cert_vouchers.specs.declared.vouchers.Vouchers.{Vouchers}
use Rattle.certpath_inputs.specs.Inputs.{VouchesBy, HasText}
use Rattle.certpath_inputs.specs.Demands.{ArePermitsOf, HoldsFor, IfNeither, VouchesWhere, demand_lines, demanded, of_purpose, target_octets}
use Rattle.certpath_inputs.specs.declared.demand.Demand.{Demand}
use Rattle.certpath_run.specs.declared.settings.Settings.{Settings}
use Rattle.certpath_run.specs.declared.settings.Outcome.{Outcome}
use Rattle.certpath_run.specs.declared.settings.Outcome.TheVariants.{Path, NoPath, NoTarget}
use Rattle.certpath_run.specs.Report.{report_with, answer_line}
use Rattle.certpath_inputs.specs.Check.{check_line}
use Rattle.certpath_find.specs.Answered.{IsFound}
use Rattle.certpath_why.specs.Why.{IsWhyFor}
use Rattle.fault_texts.specs.FaultLines.{AreFaultLines}

abbrev pub kind_of : Answer → Outcome
kind_of (answers.Path positions anchor table) = Path
kind_of (answers.NoPath table) = NoPath
kind_of answers.NoTarget = NoTarget

-- the report of the true answer, by the classes of items and anchors, with what the check says of it: yes; and the answer's kind
pub record IsReportWith (lines : List ℕ) (r : JudgingContext) (items anchors : Framed) (target : ℕ) (text : List ℕ) (outcome : Outcome) : Type 0 where
  pub classed : List Item
  pub classed_anchors : List Item
  pub answer : Answer
  pub are_classed : AreClassed items.items classed
  pub anchors_are_classed : AreClassed anchors.items classed_anchors
  pub holds : IsTrueAnswer (graph_of_items r classed classed_anchors) target answer
  pub text_is : text ≡ report_with lines classed items.end classed_anchors anchors.end answer true
  pub outcome_is : outcome ≡ kind_of answer

-- without a demand
abbrev pub IsReport : JudgingContext → Framed → Framed → ℕ → List ℕ → Outcome → Type 0
IsReport = IsReportWith []

-- The lines of what is demanded, the answer, what the check says of it: yes; why the target and the anchors that are other are so; and
-- what prevents a path. The answer is true, and its rows hold exactly how far each issuer leads, so the lines of path lengths are fixed.
-- The lines of certificates are by the first rules, and the answer is by the second: these vouch for less if something is demanded.
pub record IsWhyReportWith (demand : Demand) (r search : JudgingContext) (items anchors : Framed) (target : ℕ) (text : List ℕ) (outcome : Outcome) : Type 0 where
  pub classed : List Item
  pub classed_anchors : List Item
  pub answer : Answer
  pub are_classed : AreClassed items.items classed
  pub anchors_are_classed : AreClassed anchors.items classed_anchors
  pub found : IsFound (graph_of_items search classed classed_anchors) target answer
  pub faults : List ℕ
  pub faults_are : AreFaultLines classed target classed_anchors faults
  pub why : List ℕ
  pub is_why : IsWhyFor demand r search classed classed_anchors target answer why
  pub text_is : text ≡ demand_lines demand ++ (answer_line answer ++ (check_line true ++ (faults ++ why)))
  pub outcome_is : outcome ≡ kind_of answer

-- without a demand
abbrev pub IsWhyReport : JudgingContext → Framed → Framed → ℕ → List ℕ → Outcome → Type 0
IsWhyReport r = IsWhyReportWith (of_purpose None) r r

-- the inputs were read, and exactly their text was written
pub record Writes (IsRight : Framed → Framed → Vouchers → List ℕ → Type 0) (bundle bundle' anchors anchors' vouchers vouchers' sink sink' : Option (List ℕ)) (limit : ℕ) : Type 0 where
  pub text : List ℕ
  pub has_text : HasText IsRight bundle bundle' anchors anchors' vouchers vouchers' limit text
  pub wrote : Appends sink sink' text

-- the inputs were read, and a front of their text was written
pub record WritesInPart (IsRight : Framed → Framed → Vouchers → List ℕ → Type 0) (bundle bundle' anchors anchors' vouchers vouchers' sink sink' : Option (List ℕ)) (limit : ℕ) : Type 0 where
  pub text : List ℕ
  pub has_text : HasText IsRight bundle bundle' anchors anchors' vouchers vouchers' limit text
  pub wrote : AppendsFront sink sink' text

-- the text is the report on the target of these settings, and the answer is of this kind
abbrev pub IsReportOn : Settings → Outcome → Framed → Framed → Vouchers → List ℕ → Type 0
IsReportOn settings outcome items anchors pairs text = IsReport (rules_by settings.policy.moment settings.policy.demand_lists (VouchesBy pairs)) items anchors settings.target text outcome

-- and if a purpose and a host are demanded of its path
abbrev pub IsReportFor : Settings → Demand → Outcome → Framed → Framed → Vouchers → List ℕ → Type 0
IsReportFor settings demand outcome items anchors pairs text =
    HoldsFor demand items.items settings.target pairs (λ vouches. IsReportWith (demand_lines demand) (rules_by settings.policy.moment settings.policy.demand_lists vouches) items anchors settings.target text outcome)

abbrev pub IsWhyOn : Settings → Outcome → Framed → Framed → Vouchers → List ℕ → Type 0
IsWhyOn settings outcome items anchors pairs text = IsWhyReport (rules_by settings.policy.moment settings.policy.demand_lists (VouchesBy pairs)) items anchors settings.target text outcome

-- the pairs vouch for a key and an item, whatever is permitted, and what the permit looks at may be critical
abbrev pub VouchesAnyWhere : Permits → Vouchers → Vouching
VouchesAnyWhere permits pairs = processing_too (are_processed permits) (VouchesBy pairs)

-- And if a purpose and a host are demanded of its path. Without a demand it is as it was; else its
-- links are those of whatever is permitted, and its answer is that over the items that meet the
-- demand.
abbrev pub IsWhyReportFor : Settings → Demand → Outcome → Framed → Framed → Vouchers → List ℕ → Type 0
IsWhyReportFor settings demand outcome items anchors pairs text =
    IfNeither demand.purpose demand.host (IsWhyOn settings outcome items anchors pairs text)
    ((permits : Permits) × ArePermitsOf (demanded demand (target_octets items.items settings.target)) items.items permits
    × IsWhyReportWith demand (rules_by settings.policy.moment settings.policy.demand_lists (VouchesAnyWhere permits pairs)) (rules_by settings.policy.moment settings.policy.demand_lists (VouchesWhere permits pairs)) items anchors settings.target text outcome)
