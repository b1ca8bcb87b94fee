-- The worked reports without items are right.
use Rattle.std.proofs.Common.{◌≡◌, refl, ℕ, true, List, [], ◌∷◌, ◌++◌, arith, inl, inr, zero, suc, Some, None}
use Rattle.std.specs.Fmt.{digits}
use Rattle.std.proofs.lemmas.List.Elements.{All-from_recursion}
use Rattle.cert_faults.proofs.Faults.{certificate_refused, list_refused}
use Rattle.cert_faults.specs.declared.places.Expected.TheVariants.{Sequence}
use Rattle.cert_faults.specs.declared.places.Field.TheVariants.{TbsCertificate, TbsCertList}
use Rattle.cert_faults.specs.Steps.{missing, whole}
use Rattle.cert_graph.specs.declared.answer.Answer.TheVariants.{NoTarget}
use Rattle.cert_judge.specs.Classed.{AreClassed}
use Rattle.cert_judge.specs.ItemGraph.{graph_of_items}
use Rattle.cert_judge.specs.Revoking.{Item, JudgingContext}
use Rattle.cert_model.specs.Class.{IsClassOf, other}
use Rattle.cert_serving.specs.Refusing.{IsIn}
use Rattle.cert_serving.specs.declared.permits.Permits.{Permits}
use Rattle.certpath_run.specs.Answered.{IsFound}
use Rattle.certpath_inputs.specs.Check.{check_line}
use Rattle.certpath_inputs.specs.Demands.{ArePermitsOf, demand_lines, demanded, of_purpose, target_octets}
use Rattle.certpath_inputs.specs.declared.demand.AskedPurpose.{AskedPurpose}
use Rattle.certpath_inputs.specs.declared.demand.Demand.{Demand}
use Rattle.certpath_run.specs.EmptyReports.{no_items}
use Rattle.certpath_run.specs.Report.{answer_line}
use Rattle.certpath_run.specs.Runs.{IsWhyReportWith}
use Rattle.certpath_run.specs.declared.settings.Outcome.TheVariants as outcomes
use Rattle.certpath_why.specs.Reached.{IsReachedIn}
use Rattle.certpath_why.specs.Why.{IsWhyFor}
use Rattle.fault_texts.specs.FaultLines.{AreFaultLines, fault_line, of_other}
use Rattle.fault_texts.specs.FaultText.{clause_text, place_text}
use Rattle.fault_texts.specs.declared.lines.Whose.TheVariants.{Anchors}
use Rattle.laws_items.specs.Classes.{empty_tree}
use Rattle.laws_items.specs.Faults.{missing_fault, no_parts}
use Rattle.laws_items.proofs.OfClasses.{empty_is_object, no_certificate, no_list}
use Rattle.laws_items.proofs.OfFaults.{missing_is_first}
use Rattle.laws_paths.specs.Reports.{empty_why, one_anchor, why_of_an_anchor}

-- ---- items and anchors

abbrev no_parts_item : Item
no_parts_item = record { octets = no_parts; class = other }

no_parts_is_other : IsClassOf no_parts other
no_parts_is_other = (
  λ c is. certificate_refused 2 empty_tree (missing (whole TbsCertificate) Sequence 0) empty_is_object no_certificate c is.in_range is.spelled,
  λ l is. list_refused 2 empty_tree (missing (whole TbsCertList) Sequence 0) empty_is_object no_list l is.in_range is.spelled,
)

none_classed : AreClassed [] []
none_classed = record { octets_are = refl; classes = λ k d lt. absurd (omega (arith, lt)) }

anchor_classed : AreClassed (no_parts ∷ []) (no_parts_item ∷ [])
anchor_classed = record { octets_are = refl; classes = All-from_recursion (λ (x : Item). IsClassOf x.octets x.class) (no_parts_item ∷ []) (no_parts_is_other, tt) }

-- ---- nothing is reached

none_reached : (k v w : ℕ) → IsReachedIn [] k v w → ⊥
none_reached zero v w h = let lt = h.0.0 in omega (arith, lt)
none_reached (suc k) v w h = let lt = h.1.0 in omega (arith, lt)

module _ (demand : Demand) (r search : JudgingContext) (roots : List Item) (target : ℕ) where
  not_found : IsFound (graph_of_items search [] roots) target NoTarget
  not_found = record {
    adequate = λ h. let lt = h.0 in omega (arith, lt);
    holds = λ h. let lt = h.0 in omega (arith, lt);
    exact = tt;
    short = tt;
  }

  nothing : IsWhyFor demand r search [] roots target NoTarget []
  nothing = record {
    reached = [];
    reached_is = record {
      further = [];
      further_are = record {
        ascends = λ k lt. absurd (omega (arith, lt));
        exact = λ w. (λ at. let lt = at.1 in absurd (omega (arith, lt)), λ h. absurd (none_reached h.0.0 target w h.0.1));
      };
      own = [];
      own_is = inr (λ h. let lt = h.0 in absurd (omega (arith, lt)), refl);
      rest = [];
      rest_is = refl;
      bound = [];
      bound_are = record {
        ascends = λ k lt. absurd (omega (arith, lt));
        exact = λ v. (λ at. let lt = at.1 in absurd (omega (arith, lt)), λ h. absurd (none_reached h.0.1.0.0 target h.0.0 h.0.1.0.1));
      };
      text_is = refl;
    };
    lists = [];
    lists_are = refl;
    text_is = refl;
  }

-- ---- without items and anchors

no_faults : (target : ℕ) → AreFaultLines [] target [] []
no_faults target = record { own = []; own_is = refl; lines = []; lines_are = refl; text_is = refl }

pub empty_is_right : (demand : Demand) (r search : JudgingContext) (target : ℕ) → IsWhyReportWith demand r search no_items no_items target (empty_why (demand_lines demand)) outcomes.NoTarget
empty_is_right demand r search target = record {
  classed = [];
  classed_anchors = [];
  answer = NoTarget;
  are_classed = none_classed;
  anchors_are_classed = none_classed;
  found = not_found demand r search [] target;
  faults = [];
  faults_are = no_faults target;
  why = [];
  is_why = nothing demand r search [] target;
  text_is = refl;
  outcome_is = refl;
}

-- ---- with an anchor that is other

abbrev anchor_line : List ℕ
anchor_line = fault_line Anchors 0 missing_fault

anchor_faults : (target : ℕ) → AreFaultLines [] target (no_parts_item ∷ []) anchor_line
unfolding place_text clause_text digits
anchor_faults target = record {
  own = [];
  own_is = refl;
  lines = anchor_line;
  lines_are = (anchor_line, [], of_other missing_fault no_parts_is_other missing_is_first refl, refl, refl);
  text_is = refl;
}

anchor_reads : why_of_an_anchor ≡ demand_lines (of_purpose None) ++ (answer_line NoTarget ++ (check_line true ++ (anchor_line ++ [])))
unfolding place_text clause_text digits
anchor_reads = refl

pub anchor_is_right : (r : JudgingContext) (target : ℕ) → IsWhyReportWith (of_purpose None) r r no_items one_anchor target why_of_an_anchor outcomes.NoTarget
anchor_is_right r target = record {
  classed = [];
  classed_anchors = no_parts_item ∷ [];
  answer = NoTarget;
  are_classed = none_classed;
  anchors_are_classed = anchor_classed;
  found = not_found (of_purpose None) r r (no_parts_item ∷ []) target;
  faults = anchor_line;
  faults_are = anchor_faults target;
  why = [];
  is_why = nothing (of_purpose None) r r (no_parts_item ∷ []) target;
  text_is = anchor_reads;
  outcome_is = refl;
}

-- ---- permits

-- nothing is refused, and a purpose is processed
abbrev pub none_refused : Permits
none_refused = record { refused = record { keys = [] }; has_purpose = true; host_target = None }

refuses_none : (octets : List ℕ) → IsIn none_refused.refused octets → ⊥
refuses_none octets h = cc

pub none_to_permit : (purpose : AskedPurpose) (target : ℕ) → ArePermitsOf (demanded (of_purpose (Some purpose)) (target_octets [] target)) [] none_refused
none_to_permit purpose target = (
  λ octets. (λ p at. let lt = at.1 in absurd (omega (arith, lt)), λ p. refuses_none octets),
  λ octets identifier. (
    λ p. elim p [ inl h ↦ inl (refl, h.1) | inr h ↦ absurd h.0 ],
    λ p. elim p [ inl h ↦ inl (refl, h.1) | inr h ↦ let none = h.0 in cc ],
  ),
)
