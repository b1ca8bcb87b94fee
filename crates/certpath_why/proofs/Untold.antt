-- What follows if there is no line: of certificates, links and paths.
use Rattle.std.specs.Prelude.{◌↔◌, ◌⊎◌}
use Rattle.std.proofs.Common.{◌≡◌, ◌∙◌, ap, sym, subst, refl, ℕ, ◌<◌, Bool, true, false, nat_eq, eq-eqb, eqb-true, List, [], ◌∷◌, length, flat_map, get_or, arith, inl, inr}
use Rattle.std.specs.List.{All}
use Rattle.std.proofs.lemmas.Bool.{false≢true}
use Rattle.std.proofs.lemmas.List.Elements.{All-tail, All-weaker}
use Rattle.cert_graph.specs.Adequate.{IsAdequate}
use Rattle.cert_graph.specs.Graph.{Graph, IsValidPath}
use Rattle.cert_graph.specs.declared.answer.Answer.{Answer}
use Rattle.cert_model.specs.Class.{certificate}
use Rattle.cert_model.specs.Fields.{Certificate}
use Rattle.cert_model.specs.Octets.{key_octets, name_octets}
use Rattle.cert_judge.specs.ItemGraph.{IsAnchorLink, IsCertificateWith, IsIssuedUnder, IsLink, KeyIdsAgree, graph_of_items}
use Rattle.cert_judge.specs.Judging.{IsUsable, MayIssue}
use Rattle.cert_judge.specs.Revoking.{Item, JudgingContext}
use Rattle.cert_judge.proofs.Grouping.{element, one_certificate}
use Rattle.cert_reasons.specs.Certificates.{HasReason, order_of}
use Rattle.cert_reasons.specs.Issuers.{HasIssuerReason, issuer_order}
use Rattle.cert_reasons.specs.Links.{HasLinkReason}
use Rattle.cert_reasons.specs.Order.{AreAll}
use Rattle.cert_reasons.specs.declared.certificates.Unusable.{Unusable}
use Rattle.cert_reasons.specs.declared.issuers.NoIssuer.{NoIssuer}
use Rattle.cert_reasons.specs.declared.links.Unlinked.{Unlinked}
use Rattle.cert_reasons.proofs.Certain as certain
use Rattle.cert_reasons.proofs.Marks.{there_at}
use Rattle.cert_reasons.proofs.OfIssuers as issuing
use Rattle.cert_reasons.proofs.OfLinks.{no_reason, not_unlinked}
use Rattle.certpath_why.specs.Bounds.{reach_by}
use Rattle.certpath_why.specs.Laws.{IsUncountedPath}
use Rattle.certpath_why.specs.LawsOfLines.{HasNoIssuerLine, HasNoUnusableLine, IsDecided, IsFreePathByLines, IsPathByLines}
use Rattle.certpath_why.specs.Lines.{issuer_line, unusable_line}
use Rattle.certpath_why.specs.Reached.{HasSubject}
use Rattle.certpath_why.specs.Why.{FailsTo, FailsToAnchor, IsLinkedTo, IsLinkedToAnchor, AreNoIssuerLines, AreUnusableLines}
use Rattle.certpath_why.proofs.DecidedRules.{agree_stands, issued_stands, may_issue_stands, usable_stands}
use Rattle.certpath_why.proofs.Fated.{none_against}
use Rattle.certpath_why.proofs.Lengths.{exactly}

-- ---- lists of reasons, and their lines

-- if no reason applies, the list of all is empty
none_listed : {R : Type 0} (order : R → ℕ × ℕ) (Stands : R → Type 0) (rs : List R) → AreAll order Stands rs → ((reason : R) → Stands reason → ⊥) → rs ≡ []
none_listed order Stands [] all none = refl
none_listed order Stands (x ∷ rs) all none = absurd (none x ((all.exact x).0 (0, (let lt : 0 < length (x ∷ rs) = omega arith in lt), refl)))

no_unusable : (v : ℕ) (c : Certificate) (reasons : List Unusable) → flat_map (unusable_line v c) reasons ≡ [] → reasons ≡ []
no_unusable v c [] e = refl
no_unusable v c (x ∷ reasons) e = absurd (cc e)

no_issuer : (v : ℕ) (reasons : List NoIssuer) → flat_map (issuer_line v) reasons ≡ [] → reasons ≡ []
no_issuer v [] e = refl
no_issuer v (x ∷ reasons) e = absurd (cc e)

issue_by : (b : Bool) (v : ℕ) (c : Certificate) (text : List ℕ) → AreNoIssuerLines b v c text → (text ≡ []) ↔ ((b ≡ true) ⊎ MayIssue c.extensions)
issue_by true v c text t = (λ e. inl refl, λ h. t.2)
issue_by false v c text t = (
  λ e. inr (may_issue_stands c.extensions (issuing.not_unfit c (issuing.none_stands c t.0 t.1 (no_issuer v t.0 (sym t.2 ∙ e))))),
  λ h. elim h [
    | inl e ↦ absurd (false≢true e)
    | inr may ↦ t.2 ∙ ap (flat_map (issuer_line v)) (none_listed issuer_order (HasIssuerReason c) t.0 t.1 (λ reason fact. issuing.no_reason c reason may fact))
  ],
)

pub issue_exactly : (target v : ℕ) (c : Certificate) (text : List ℕ) → AreNoIssuerLines (nat_eq v target) v c text → (text ≡ []) ↔ ((v ≡ target) ⊎ MayIssue c.extensions)
issue_exactly target v c text t =
    let by = issue_by (nat_eq v target) v c text t in (
      λ e. elim (by.0 e) [ inl same ↦ inl (eqb-true v target same) | inr may ↦ inr may ],
      λ h. elim h [ inl same ↦ by.1 (inl (eq-eqb v target same)) | inr may ↦ by.1 (inr may) ],
    )

issues : (v : ℕ) (c : Certificate) → AreNoIssuerLines false v c [] → MayIssue c.extensions
issues v c t = elim ((issue_by false v c [] t).0 refl) [ inl e ↦ absurd (false≢true e) | inr may ↦ may ]

-- ---- links to anchors

pub none_against_anchor : (r : JudgingContext) (items anchors : List Item) (x : Item) (c : Certificate) (a : ℕ) (reason : Unlinked) → x.class ≡ certificate c → IsLinkedToAnchor r items anchors x a → FailsToAnchor r items anchors x c reason a → ⊥
none_against_anchor r items anchors x c a reason is l h =
    let e = element anchors a h.0 in
    let p = l.1 e.0 in
    let q = h.1 e.0 in
    let same : p.0 ≡ c = one_certificate x.class p.0 c p.1 is in
    let other : p.2.0 ≡ q.0 = one_certificate (get_or anchors a e.0).class p.2.0 q.0 p.2.1 q.1 in
    let first = subst (λ (k : Certificate). IsIssuedUnder r items x k (name_octets p.2.0.subject) (key_octets p.2.0.key)) same p.2.2 in
    let moved = subst (λ (d : Certificate). IsIssuedUnder r items x c (name_octets d.subject) (key_octets d.key)) other first in
    no_reason r items x c (name_octets q.0.subject) (key_octets q.0.key) (Unit {0}) reason moved tt q.2.1

module _ (r : JudgingContext) (answers : IsDecided r) where
  pub usable_exactly : (v : ℕ) (x : Item) (c : Certificate) (text : List ℕ) → AreUnusableLines r v x c text → (text ≡ []) ↔ IsUsable (r.Processes x.octets) r.moment c
  usable_exactly v x c text t =
      let P = r.Processes x.octets in (
        λ e. usable_stands P (answers.processed x.octets) r.moment c (certain.not_unusable P r.moment c (certain.none_stands P r.moment c t.0 t.1 (no_unusable v c t.0 (sym t.2 ∙ e)))),
        λ u. t.2 ∙ ap (flat_map (unusable_line v c)) (none_listed order_of (HasReason P r.moment c) t.0 t.1 (λ reason fact. certain.no_reason P r.moment c reason u fact)),
      )

  -- ---- links

  linked_of_none : (items : List Item) (x : Item) (c : Certificate) (w : ℕ) → x.class ≡ certificate c → HasSubject items (name_octets c.issuer) w → ((reason : Unlinked) → FailsTo r items x c reason w → ⊥) → IsLinkedTo r items x w
  linked_of_none items x c w is s none =
      let e = element items w s.0 in
      let d = s.1 e.0 in
      let class : e.0.class ≡ certificate d.0 = subst (λ (y : Item). y.class ≡ certificate d.0) (sym e.1) d.1 in
      let there = there_at items w e.0 s.0 e.1 in
      let denied : (IsIssuedUnder r items x c (name_octets d.0.subject) (key_octets d.0.key) → KeyIdsAgree c d.0 → ⊥) → ⊥ =
      not_unlinked r items x c (name_octets d.0.subject) (key_octets d.0.key) (KeyIdsAgree c d.0) (sym d.2)
      (λ reason fact. none reason ((there (IsCertificateWith (λ f. (name_octets f.subject ≡ name_octets c.issuer) × HasLinkReason r items x c (name_octets f.subject) (key_octets f.key) (KeyIdsAgree c f) reason))).0 (d.0, class, (d.2, fact)))) in
      let issued = issued_stands r answers items x c (name_octets d.0.subject) (key_octets d.0.key) (λ never. denied (λ i same. never i)) in
      let agree = agree_stands c d.0 (λ never. denied (λ i same. never same)) in
      (there (IsLink r items x)).0 (c, is, (d.0, class, (issued, agree)))

  anchored_of_none : (items anchors : List Item) (x : Item) (c : Certificate) (a : ℕ) → x.class ≡ certificate c → HasSubject anchors (name_octets c.issuer) a → ((reason : Unlinked) → FailsToAnchor r items anchors x c reason a → ⊥) → IsLinkedToAnchor r items anchors x a
  anchored_of_none items anchors x c a is s none =
      let e = element anchors a s.0 in
      let d = s.1 e.0 in
      let class : e.0.class ≡ certificate d.0 = subst (λ (y : Item). y.class ≡ certificate d.0) (sym e.1) d.1 in
      let there = there_at anchors a e.0 s.0 e.1 in
      let denied : (IsIssuedUnder r items x c (name_octets d.0.subject) (key_octets d.0.key) → Unit {0} → ⊥) → ⊥ =
      not_unlinked r items x c (name_octets d.0.subject) (key_octets d.0.key) (Unit {0}) (sym d.2)
      (λ reason fact. none reason ((there (IsCertificateWith (λ f. (name_octets f.subject ≡ name_octets c.issuer) × HasLinkReason r items x c (name_octets f.subject) (key_octets f.key) (Unit {0}) reason))).0 (d.0, class, (d.2, fact)))) in
      let issued = issued_stands r answers items x c (name_octets d.0.subject) (key_octets d.0.key) (λ never. denied (λ i any. never i)) in
      (there (IsAnchorLink r items x)).0 (c, is, (d.0, class, issued))

  pub linked_exactly : (items : List Item) (x : Item) (c : Certificate) (w : ℕ) → x.class ≡ certificate c → HasSubject items (name_octets c.issuer) w → IsLinkedTo r items x w ↔ ((reason : Unlinked) → FailsTo r items x c reason w → ⊥)
  linked_exactly items x c w is s = (λ l reason fails. none_against r items x c w reason is l fails, λ none. linked_of_none items x c w is s none)

  pub anchored_exactly : (items anchors : List Item) (x : Item) (c : Certificate) (a : ℕ) → x.class ≡ certificate c → HasSubject anchors (name_octets c.issuer) a → IsLinkedToAnchor r items anchors x a ↔ ((reason : Unlinked) → FailsToAnchor r items anchors x c reason a → ⊥)
  anchored_exactly items anchors x c a is s = (λ l reason fails. none_against_anchor r items anchors x c a reason is l fails, λ none. anchored_of_none items anchors x c a is s none)

  -- ---- paths

  module _ (items anchors : List Item) where
    abbrev G : Graph
    G = graph_of_items r items anchors

    usable_at : (v : ℕ) → HasNoUnusableLine r items v → G.Usable v
    usable_at v h = (h.0, λ y. let p = h.1 y in (p.0, p.1, (usable_exactly v (get_or items v y) p.0 [] p.2).0 refl))

    fit_at : (v : ℕ) → G.Usable v → HasNoIssuerLine items v → G.Fit v
    fit_at v u h = (
      u.0,
      λ y.
          let p = u.1 y in
          let q = h.1 y in
          let same : q.0 ≡ p.0 = one_certificate (get_or items v y).class q.0 p.0 q.1 p.1 in
          (p.0, p.1, record { usable = p.2; issues = subst (λ (c : Certificate). MayIssue c.extensions) same (issues v q.0 q.2) }),
    )

    by_lines : (target : ℕ) (ps : List ℕ) (anchor : ℕ) → IsPathByLines r items anchors target ps anchor → IsUncountedPath r items anchors target ps anchor
    by_lines target ps anchor p =
        let all : All G.Usable ps = All-weaker (HasNoUnusableLine r items) G.Usable usable_at ps p.usable in
        let rest : All G.Usable p.issuers = All-tail G.Usable target p.issuers (subst (All G.Usable) p.starts all) in
        record {
          issuers = p.issuers;
          starts = p.starts;
          usable = all;
          fit = λ k d lt. fit_at (get_or p.issuers k d) (rest k d lt) (p.issue k d lt);
          linked = p.linked;
          anchored = p.anchored;
          limits = λ front back v e. tt;
        }

    no_unusable_at : (v : ℕ) → G.Usable v → HasNoUnusableLine r items v
    no_unusable_at v u = (u.0, λ y. let p = u.1 y in (p.0, p.1, ([], certain.all_of_usable (r.Processes (get_or items v y).octets) r.moment p.0 p.2, refl)))

    no_issuer_at : (v : ℕ) → G.Fit v → HasNoIssuerLine items v
    no_issuer_at v f = (f.0, λ y. let p = f.1 y in (p.0, p.1, ([], issuing.all_of_issuer p.0 p.2.issues, refl)))

    to_lines : (target : ℕ) (ps : List ℕ) (anchor : ℕ) → IsUncountedPath r items anchors target ps anchor → IsPathByLines r items anchors target ps anchor
    to_lines target ps anchor p = record {
      issuers = p.issuers;
      starts = p.starts;
      usable = All-weaker G.Usable (HasNoUnusableLine r items) no_unusable_at ps p.usable;
      issue = All-weaker G.Fit (HasNoIssuerLine items) no_issuer_at p.issuers p.fit;
      linked = p.linked;
      anchored = p.anchored;
    }

    pub path_iff : (target : ℕ) (ps : List ℕ) (anchor : ℕ) → IsPathByLines r items anchors target ps anchor ↔ IsUncountedPath r items anchors target ps anchor
    path_iff target ps anchor = (by_lines target ps anchor, to_lines target ps anchor)

    pub exactly_by_lines : (target : ℕ) (answer : Answer) → IsAdequate G target answer
        → ((ps : List ℕ) × (anchor : ℕ) × IsFreePathByLines r items anchors target (reach_by answer) ps anchor) ↔ ((ps : List ℕ) × (anchor : ℕ) × IsValidPath G target ps anchor)
    exactly_by_lines target answer adequate =
        let iff = exactly r items anchors target answer adequate in (
          λ f. iff.0 (f.0, f.1, (by_lines target f.0 f.1 f.2.0, f.2.1)),
          λ p. let f = iff.1 p in (f.0, f.1, (to_lines target f.0 f.1 f.2.0, f.2.1)),
        )
