-- The report on a certificate that is alone: none of its issuer's name is there.
use Rattle.std.proofs.Common.{◌≡◌, ◌∙◌, refl, ap, sym, subst, zero, suc, ℕ, ◌<◌, List, [], ◌∷◌, ◌++◌, arith, inl, inr, lit<, None, Global}
use Rattle.std.proofs.lemmas.List.{append-nil}
use Rattle.std.proofs.lemmas.List.Elements.{All-from_recursion}
use Rattle.cert_graph.specs.Adequate.{HasAnchored, HasAnchoredAt, IsAdequate, IsSuccessor, at_row, row_of}
use Rattle.cert_graph.specs.Graph.{Graph}
use Rattle.cert_graph.specs.Reach.{Takes}
use Rattle.cert_graph.specs.declared.answer.Answer.{Answer}
use Rattle.cert_graph.specs.declared.answer.Answer.TheVariants.{NoPath}
use Rattle.cert_graph.specs.declared.answer.Table.TheVariants.{Row}
use Rattle.cert_graph.specs.declared.reach.Reach.{Reach}
use Rattle.cert_graph.specs.declared.reach.Reach.TheVariants.{No}
use Rattle.cert_graph.proofs.Tails.{fixed_takes, tail_from_chain}
use Rattle.cert_graph.proofs.True.{adequate_is_true}
use Rattle.cert_judge.specs.Classed.{AreClassed}
use Rattle.cert_judge.specs.Examples.{certificate_item}
use Rattle.cert_judge.specs.ItemGraph.{graph_of_items}
use Rattle.cert_judge.specs.Items.{rules_by}
use Rattle.cert_judge.specs.Revoking.{Item, JudgingContext}
use Rattle.cert_judge.proofs.ExampleLists.{target_usable}
use Rattle.cert_judge.proofs.Grouping.{one_certificate}
use Rattle.cert_model.specs.Class.{IsClassOf, certificate}
use Rattle.cert_model.specs.Examples.{common_name, issued_by_b}
use Rattle.cert_model.specs.Fields.{Certificate}
use Rattle.cert_model.specs.Octets.{attribute_octets, certificate_octets, name_octets, relative_name_octets}
use Rattle.cert_reasons.specs.Issuers.{HasIssuerReason, issuer_order}
use Rattle.cert_reasons.specs.Order.{AreAll}
use Rattle.cert_reasons.specs.declared.issuers.NoIssuer.TheVariants as issuing
use Rattle.cert_reasons.specs.declared.links.Unlinked.{Unlinked}
use Rattle.cert_reasons.proofs.Certain.{all_of_usable}
use Rattle.cert_reasons.proofs.Worked.{end_entity}
use Rattle.cert_search.specs.Exact.{HoldsAll, HoldsNoElsewhere}
use Rattle.cert_vouchers.specs.declared.vouchers.Vouchers.{Vouchers}
use Rattle.certpath_run.specs.Answered.{IsFound}
use Rattle.certpath_inputs.specs.Demands.{of_purpose}
use Rattle.certpath_inputs.specs.Inputs.{VouchesBy}
use Rattle.certpath_run.specs.EmptyReports.{no_items}
use Rattle.certpath_run.specs.Runs.{IsWhyOn}
use Rattle.certpath_run.specs.declared.settings.Outcome.TheVariants as outcomes
use Rattle.certpath_why.specs.Lines.{missing_line, subject_line}
use Rattle.certpath_why.specs.Ranges.{AreRanges}
use Rattle.certpath_why.specs.Reached.{ArePositions, HasSubject, IsFurther, IsReachedIn}
use Rattle.certpath_why.specs.Why.{FailsTo, IsLinkedTo, IsWhyFor, TellsCertificate, TellsGroups, TellsLinks}
use Rattle.fault_texts.specs.FaultLines.{AreFaultLines}
use Rattle.laws_graph.specs.Vectors.{vec_of}
use Rattle.laws_paths.specs.Found.{by_june}
use Rattle.laws_paths.specs.Reports.{alone, alone_settings, why_of_one_alone}
use Rattle.laws_paths.proofs.OfItems.{issued_item}

abbrev item : Item
item = certificate_item issued_by_b

abbrev items : List Item
items = item ∷ []

abbrev issuer : List ℕ
issuer = name_octets (common_name 0x62)

-- its subject is the empty name, and its issuer isn't
other_name : name_octets [] ≡ issuer → ⊥
unfolding name_octets relative_name_octets attribute_octets
other_name e = cc

no_subject : (w : ℕ) → HasSubject items issuer w → ⊥
no_subject zero h =
    let d = h.1 item in
    let same : issued_by_b ≡ d.0 = one_certificate (certificate issued_by_b) issued_by_b d.0 refl d.1 in
    other_name (ap (λ (c : Certificate). name_octets c.subject) same ∙ d.2)
no_subject (suc w) h = let lt = h.0 in omega (arith, lt)

-- nothing but itself is reached
none_further : (w : ℕ) → IsFurther items 0 w → ⊥
none_further w (h, apart) = none_in h.0 h.1
  where
    none_in : (k : ℕ) → IsReachedIn items k 0 w → ⊥
    none_in zero r = apart (sym r.1)
    none_in (suc k) r =
        let c = r.1.1 item in
        let same : c.0 ≡ issued_by_b = one_certificate (certificate issued_by_b) c.0 issued_by_b c.1 refl in
        no_subject r.0 (subst (λ (c : Certificate). HasSubject items (name_octets c.issuer) r.0) same c.2)

no_position : (P : ℕ → Type 0) → ((p : ℕ) → P p → ⊥) → ArePositions P []
no_position P none = record { ascends = λ k lt. absurd (omega (arith, lt)); exact = λ p. (λ at. let lt = at.1 in absurd (omega (arith, lt)), λ h. absurd (none p h)) }

no_range : (P : ℕ → Type 0) → ((p : ℕ) → P p → ⊥) → AreRanges P []
no_range P none = record {
  exact = λ p. (λ h. let at = h.1 in let lt = at.1 in absurd (omega (arith, lt)), λ h. absurd (none p h));
  apart = λ i j d lt end. absurd (omega (arith, end));
  none_empty = λ r at. let lt = at.1 in absurd (omega (arith, lt));
}

no_groups : (front : List ℕ) (Linked : ℕ → Type 0) (Fails : Unlinked → ℕ → Type 0) → ((w : ℕ) → Linked w → ⊥) → ((reason : Unlinked) (w : ℕ) → Fails reason w → ⊥) → TellsGroups front Linked Fails []
no_groups front Linked Fails none no_fails = record {
  linked = [];
  linked_is = ([], no_range Linked none, refl);
  unvouched = [];
  unvouched_is = ([], no_range _ (no_fails _), refl);
  differing = [];
  differing_is = ([], no_range _ (no_fails _), refl);
  lists = [];
  lists_ascend = λ k lt. absurd (omega (arith, lt));
  lists_are_all = λ p w fails. absurd (no_fails _ w fails.0);
  revoked = [];
  revoked_is = refl;
  lacking = [];
  lacking_is = ([], no_range _ (no_fails _), refl);
  text_is = refl;
}

module _ (alloc : Global) (pairs : Vouchers) where
  abbrev r : JudgingContext
  r = rules_by by_june.now.moment by_june.now.demand_lists (VouchesBy pairs)

  abbrev graph : Graph
  graph = graph_of_items r items []

  no_link : (w : ℕ) → IsLinkedTo r items item w → ⊥
  no_link w h =
      let c = h.1 item in
      let same : c.0 ≡ issued_by_b = one_certificate (certificate issued_by_b) c.0 issued_by_b c.1 refl in
      no_subject w (
        h.0,
        λ d. let l = h.1 d in let e = l.2 in
            let mine : l.0 ≡ issued_by_b = one_certificate (certificate issued_by_b) l.0 issued_by_b l.1 refl in
            (e.0, e.1, sym e.2.0.issuer ∙ ap (λ (c : Certificate). name_octets c.issuer) mine),
      )

  no_edge : (v w : ℕ) → graph.Edge v w → ⊥
  no_edge zero w h = no_link w (h.1 item)
  no_edge (suc v) w h = let lt = h.0 in omega (arith, lt)

  no_anchor : (v a : ℕ) → graph.AnchorEdge v a → ⊥
  no_anchor v a h = let lt = (h.1 item).0 in omega (arith, lt)

  -- ---- no path

  abbrev row : List Reach
  row = No ∷ []

  abbrev none : Answer
  none = NoPath (Row (vec_of alloc row (lit< tt)))

  anchored : HasAnchored graph row
  unfolding HasAnchoredAt
  anchored v a fit edge = absurd (no_anchor v a edge)

  follows : IsSuccessor graph row row
  follows v w fv fw edge = absurd (no_edge v w edge)

  adequate : IsAdequate graph 0 none
  adequate = record {
    certificate = (lit< tt, λ d. (issued_by_b, refl, tt));
    row = row;
    one = refl;
    whole = refl;
    anchored = anchored;
    fixed = follows;
    closed = inr (no_anchor 0, λ w fit edge. absurd (no_edge 0 w edge));
  }

  none_taken : (v c : ℕ) → Takes (at_row row v) c → ⊥
  none_taken zero c t = t
  none_taken (suc v) c t = t

  holds_all : HoldsAll graph row
  holds_all v c = (λ t. absurd (none_taken v c t), λ reached. let h = reached.1 in fixed_takes graph row anchored follows h.0 c v h.1 (tail_from_chain graph c v h.0 h.1 h.3))

  no_elsewhere : HoldsNoElsewhere graph row
  no_elsewhere zero unfit = refl
  no_elsewhere (suc v) unfit = refl

  exact : (k : ℕ) → k < 1 → HoldsAll graph (row_of (row ∷ []) k) × HoldsNoElsewhere graph (row_of (row ∷ []) k)
  exact zero lt = (holds_all, no_elsewhere)
  exact (suc k) lt = absurd (omega (arith, lt))

  found : IsFound graph 0 none
  found = record { adequate = adequate; holds = adequate_is_true graph 0 none adequate; exact = exact; short = tt }

  -- ---- the lines

  abbrev missing : List ℕ
  missing = missing_line 0 issuer

  abbrev own : List ℕ
  own = subject_line 0 (name_octets []) ++ missing

  fails : (reason : Unlinked) (w : ℕ) → FailsTo r items item issued_by_b reason w → ⊥
  fails reason w h = no_subject w (h.0, λ d. let e = h.1 d in (e.0, e.1, e.2.0))

  links : TellsLinks r items [] 0 item issued_by_b missing
  links = record {
    issuers = [];
    issuers_are = no_position (HasSubject items issuer) no_subject;
    roots = [];
    roots_are = no_position (HasSubject [] issuer) (λ a h. let lt = h.0 in omega (arith, lt));
    to_issuers = [];
    to_issuers_is = no_groups _ (IsLinkedTo r items item) (FailsTo r items item issued_by_b) no_link fails;
    to_roots = [];
    to_roots_is = no_groups _ _ _ (λ a h. let lt = h.0 in omega (arith, lt)) (λ reason a h. let lt = h.0 in omega (arith, lt));
    text_is = refl;
  }

  no_authority : AreAll issuer_order (HasIssuerReason issued_by_b) (issuing.NoAuthority ∷ [])
  no_authority = record { exact = λ reason. end_entity.exact reason; ordered = end_entity.ordered }

  told : TellsCertificate (of_purpose None) r items [] 0 0 item issued_by_b own
  told = record {
    unusable = [];
    unusable_is = ([], all_of_usable (r.Processes item.octets) r.moment issued_by_b target_usable, refl);
    unmet = [];
    unmet_is = refl;
    no_issuer = [];
    no_issuer_is = (issuing.NoAuthority ∷ [], no_authority, refl);
    links = missing;
    links_are = links;
    text_is = refl;
  }

  why : IsWhyFor (of_purpose None) r r items [] 0 none own
  why = record {
    reached = own;
    reached_is = record {
      further = [];
      further_are = no_position (IsFurther items 0) none_further;
      own = own;
      own_is = inl (lit< tt, λ d. (issued_by_b, refl, told));
      rest = [];
      rest_is = refl;
      bound = [];
      bound_are = no_position _ (λ v h. none_further h.0.0 h.0.1);
      text_is = sym (append-nil own);
    };
    lists = [];
    lists_are = ([], [], (lit< tt, λ d. refl), refl, refl);
    text_is = sym (append-nil own);
  }

  no_faults : AreFaultLines items 0 [] []
  no_faults = record { own = []; own_is = refl; lines = []; lines_are = refl; text_is = refl }

  classed : AreClassed (certificate_octets issued_by_b ∷ []) items
  classed = record { octets_are = refl; classes = All-from_recursion (λ (x : Item). IsClassOf x.octets x.class) items (issued_item, tt) }

  pub alone_is_right : IsWhyOn alone_settings outcomes.NoPath alone no_items pairs why_of_one_alone
  alone_is_right = record {
    classed = items;
    classed_anchors = [];
    answer = none;
    are_classed = classed;
    anchors_are_classed = record { octets_are = refl; classes = λ k d lt. absurd (omega (arith, lt)) };
    found = found;
    faults = [];
    faults_are = no_faults;
    why = own;
    is_why = why;
    text_is = refl;
    outcome_is = refl;
  }
