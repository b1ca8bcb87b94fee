-- What the report on all items says. Each line ends in LF (10), and a space is 32. This page is to be believed.
use Rattle.std.specs.Prelude.{◌≡◌, ℕ, ◌+◌, ◌||◌, Bool, true, false, if◌then◌else◌, List, [], ◌∷◌, ◌++◌, length, codes}
use Rattle.std.specs.Fmt.{decimal}
use Rattle.cert_framing.specs.declared.ending.End.{End}
use Rattle.cert_framing.specs.Held.{Framed}
use Rattle.cert_graph.specs.declared.inventory.Inventory.{Inventory}
use Rattle.cert_graph.specs.declared.inventory.Verdict.{Verdict}
use Rattle.cert_graph.specs.declared.inventory.Verdict.TheVariants.{FirstPath, Pathless, NoCertificate}
use Rattle.cert_graph.specs.Inventory.{IsAdequateInventory, IsTrueInventory}
use Rattle.cert_judge.specs.Vouching.{Vouching}
use Rattle.cert_judge.specs.Classed.{AreClassed}
use Rattle.cert_judge.specs.ItemGraph.{graph_of_items}
use Rattle.cert_judge.specs.Items.{rules_by}
use Rattle.cert_judge.specs.Revoking.{Item, JudgingContext}
use Rattle.cert_model.specs.Class.{Class}
use Rattle.cert_vouchers.specs.declared.vouchers.Vouchers.{Vouchers}
use Rattle.certpath_evidence.specs.Evidence.{evidence, told_by}
use Rattle.certpath_inputs.specs.declared.demand.Demand.{Demand}
use Rattle.certpath_inputs.specs.Demands.{HoldsFor, demand_lines, purpose_line}
use Rattle.certpath_inputs.specs.declared.settings.AllSettings.{AllSettings}
use Rattle.certpath_run.specs.declared.settings.AllOutcome.{AllOutcome}
use Rattle.certpath_run.specs.declared.settings.AllOutcome.TheVariants.{Each, NotEach}
use Rattle.certpath_run.specs.Report.{class_word, end_line, anchors_line, position_words}
use Rattle.certpath_inputs.specs.Check.{check_line}
use Rattle.certpath_inputs.specs.Inputs.{VouchesBy}

-- what is said of an item as a target: its path and the anchor, that it has none, or the class of what is no certificate
abbrev pub verdict_end : Class → Verdict → List ℕ
verdict_end class (FirstPath positions anchor) = codes "path" ++ (position_words positions.items ++ (codes " anchor " ++ (decimal anchor ++ 10 ∷ [])))
verdict_end class Pathless = codes "none\n"
verdict_end class NoCertificate = class_word class ++ 10 ∷ []

-- a line for each item: its number, from k on, and what is said of it
abbrev pub verdict_lines : ℕ → List Item → List Verdict → List ℕ
verdict_lines k [] verdicts = []
verdict_lines k (item ∷ items) [] = []
verdict_lines k (item ∷ items) (verdict ∷ verdicts) = (decimal k ++ (32 ∷ verdict_end item.class verdict)) ++ verdict_lines (k + 1) items verdicts

-- with the lines of what is demanded before that of the check
abbrev pub all_report_with : List ℕ → List Item → End → List Item → End → List Verdict → Bool → List ℕ
all_report_with lines items end anchors anchors_end verdicts said =
    verdict_lines 0 items verdicts ++ (end_line end ++ (anchors_line anchors anchors_end ++ (lines ++ check_line said)))

-- and without a demand
abbrev pub all_report : List Item → End → List Item → End → List Verdict → Bool → List ℕ
all_report = all_report_with []

-- a certificate without a path is among them
abbrev pub is_pathless : Verdict → Bool
is_pathless (FirstPath positions anchor) = false
is_pathless Pathless = true
is_pathless NoCertificate = false

abbrev pub has_pathless : List Verdict → Bool
has_pathless [] = false
has_pathless (verdict ∷ verdicts) = is_pathless verdict || has_pathless verdicts

abbrev pub outcome_of_all : List Verdict → AllOutcome
outcome_of_all verdicts = if has_pathless verdicts then NotEach else Each

-- the report of true verdicts that one table shows, by the classes of items and anchors, with what the check says of them: yes
pub record IsAllReportWith (lines : List ℕ) (r : JudgingContext) (items anchors : Framed) (text : List ℕ) (outcome : AllOutcome) : Type 0 where
  pub classed : List Item
  pub classed_anchors : List Item
  pub inventory : Inventory
  pub are_classed : AreClassed items.items classed
  pub anchors_are_classed : AreClassed anchors.items classed_anchors
  pub adequate : IsAdequateInventory (graph_of_items r classed classed_anchors) inventory
  pub holds : IsTrueInventory (graph_of_items r classed classed_anchors) inventory
  pub text_is : text ≡ all_report_with lines classed items.end classed_anchors anchors.end inventory.verdicts.items true
  pub outcome_is : outcome ≡ outcome_of_all inventory.verdicts.items

-- without a demand
abbrev pub IsAllReport : JudgingContext → Framed → Framed → List ℕ → AllOutcome → Type 0
IsAllReport = IsAllReportWith []

-- the text is the report on all items by these settings, and the outcome is its own
abbrev pub IsAllReportOn : AllSettings → AllOutcome → Framed → Framed → Vouchers → List ℕ → Type 0
IsAllReportOn settings outcome items anchors pairs text = IsAllReport (rules_by settings.policy.moment settings.policy.demand_lists (VouchesBy pairs)) items anchors text outcome

-- the report of an inventory, by the relation under which its paths are judged
abbrev pub IsAllReportBy : List ℕ → AllSettings → AllOutcome → Inventory → Framed → Framed → List ℕ → Vouching → Type 0
IsAllReportBy lines settings outcome inventory items anchors text vouches =
    (report : IsAllReportWith lines (rules_by settings.policy.moment settings.policy.demand_lists vouches) items anchors text outcome) × (report.inventory ≡ inventory)

-- the text is the report on all items if a purpose is demanded of their paths; the demand has no
-- host, so no item is the target
abbrev pub IsAllReportFor : AllSettings → Demand → AllOutcome → Framed → Framed → Vouchers → List ℕ → Type 0
IsAllReportFor settings demand outcome items anchors pairs text =
    HoldsFor demand items.items (length items.items) pairs (λ vouches. IsAllReportWith (demand_lines demand) (rules_by settings.policy.moment settings.policy.demand_lists vouches) items anchors text outcome)

-- and it is the report of this inventory
abbrev pub IsAllReportOf : AllSettings → Demand → AllOutcome → Inventory → Framed → Framed → Vouchers → List ℕ → Type 0
IsAllReportOf settings demand outcome inventory items anchors pairs text =
    HoldsFor demand items.items (length items.items) pairs (λ vouches. IsAllReportBy (demand_lines demand) settings outcome inventory items anchors text vouches)

-- and this is the evidence of the inventory that it reports, for that purpose
abbrev pub AreFindingsFor : AllSettings → Demand → AllOutcome → List ℕ → Framed → Framed → Vouchers → List ℕ → Type 0
AreFindingsFor settings demand outcome shown items anchors pairs text =
    HoldsFor demand items.items (length items.items) pairs (λ vouches. (report : IsAllReportWith (demand_lines demand) (rules_by settings.policy.moment settings.policy.demand_lists vouches) items anchors text outcome)
    × (shown ≡ purpose_line demand.purpose ++ evidence (told_by report.inventory)))
