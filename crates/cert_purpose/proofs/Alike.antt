-- JudgingContext that vouch alike, and rules that vouch for less.
use Rattle.std.specs.Prelude.{◌↔◌}
use Rattle.std.proofs.Common.{◌≡◌, ◌∙◌, ap, sym, subst, refl, ℕ, ◌+◌, ◌<◌, Bool, List, [], ◌∷◌, ◌++◌, length, length-append, get_or, take, drop, arith}
use Rattle.std.specs.List.{All, Contains}
use Rattle.std.proofs.Math.Seq.{get_or-append_seam}
use Rattle.std.proofs.lemmas.List.{take-append-drop, drop_more}
use Rattle.cert_graph.specs.Entries.{IsAt}
use Rattle.cert_graph.specs.Graph.{IsValidPath, AreNeighbours, EndsIn}
use Rattle.cert_graph.specs.Laws.{Agrees}
use Rattle.cert_graph.proofs.Agreeing.{agreed_true, valid_same}
use Rattle.cert_graph.proofs.PathLaws.{path_carried, map_same}
use Rattle.cert_graph.proofs.EntryFacts.{is_at, has_at}
use Rattle.cert_model.specs.Fields.{CivilTime, Number, Certificate, RevocationList}
use Rattle.cert_model.specs.Class.{certificate, list}
use Rattle.cert_judge.specs.Vouching.{Vouching, processing_too}
use Rattle.cert_judge.specs.Items.{rules_at}
use Rattle.cert_judge.specs.Revoking.{Item, JudgingContext, IsUsedList, IsSatisfied}
use Rattle.cert_judge.specs.ItemGraph.{IsCertificateWith, IsIssuedUnder, IsLink, IsAnchorLink, graph_of_items}
use Rattle.cert_judge.specs.LawsOfItems.{VouchesForMore}
use Rattle.cert_judge.proofs.Carrying.{items_carry, same_items}
use Rattle.cert_judge.proofs.Grouping.{element, one_certificate}
use Rattle.cert_judge.proofs.Linking.{fit_is_usable}
use Rattle.cert_purpose.specs.Restricting.{restricted_by, VouchAlike, HaveSameTrueAnswers, PermitsThose, IsCertificateSuch, HasPathsOfThose}

more_from : (r s : JudgingContext) (items : List Item) → VouchAlike r s items → VouchesForMore r s items
more_from r s items h = record { moment = h.moment; demand = h.demand; certificates = λ x c key at is. (h.certificates x c key at is).0; lists = λ x l key at is. h.lists x l key at is; processed = λ x c id at is. (h.processed x c id at is).0 }

pub alike_back : (r s : JudgingContext) (items : List Item) → VouchAlike r s items → VouchAlike s r items
alike_back r s items h = record {
  moment = sym h.moment;
  demand = sym h.demand;
  certificates = λ x c key at is. let i = h.certificates x c key at is in (i.1, i.0);
  lists = λ x l key at is. let i = h.lists x l key at is in (i.1, i.0);
  processed = λ x c id at is. let i = h.processed x c id at is in (i.1, i.0);
}

pub alike_agrees : (r s : JudgingContext) (items anchors : List Item) → VouchAlike r s items → Agrees (graph_of_items r items anchors) (graph_of_items s items anchors)
alike_agrees r s items anchors h =
    let there = items_carry (λ v. v) r s items items anchors (more_from r s items h) (same_items items) in
    let back = items_carry (λ v. v) s r items items anchors (more_from s r items (alike_back r s items h)) (same_items items) in record {
      items = refl;
      certificate = λ v. (λ h. h, λ h. h);
      usable = λ v. (there.usable v, back.usable v);
      fit = λ v. (there.fit v, back.fit v);
      self_issued = λ v. refl;
      limit = λ v f. refl;
      edge = λ v w f. (there.edge v w f, back.edge v w (there.fit w f));
      anchored = λ v a. (there.anchored v a, back.anchored v a);
    }

pub alike_answers : (r s : JudgingContext) (items : List Item) → VouchAlike r s items → HaveSameTrueAnswers r s items
alike_answers r s items h = λ anchors target answer.
    agreed_true (graph_of_items r items anchors) (graph_of_items s items anchors) (alike_agrees r s items anchors h) (fit_is_usable r items anchors) target answer

pub alike_valid : (r s : JudgingContext) (items anchors : List Item) → VouchAlike r s items → (target : ℕ) (ps : List ℕ) (a : ℕ) → IsValidPath (graph_of_items r items anchors) target ps a → IsValidPath (graph_of_items s items anchors) target ps a
alike_valid r s items anchors h = valid_same (graph_of_items r items anchors) (graph_of_items s items anchors) (alike_agrees r s items anchors h) (fit_is_usable s items anchors)

module _ (moment : CivilTime) (demand : Bool) (V : Vouching) (P : List ℕ → Type 0) (R : List ℕ → List ℕ → Type 0) (items : List Item) (lists : (x : Item) (l : RevocationList) → Contains items x → x.class ≡ list l → P x.octets) where
  abbrev base : JudgingContext
  base = rules_at moment demand (processing_too R V)

  abbrev less : JudgingContext
  less = rules_at moment demand (restricted_by P R V)

  less_is_less : VouchesForMore less base items
  less_is_less = record { moment = refl; demand = refl; certificates = λ x c key at is h. h.0; lists = λ x l key at is. (λ h. h.0, λ h. (h, lists x l at is)); processed = λ x c id at is p. p }

  used_still : (name key : List ℕ) (x : Item) (l : RevocationList) → Contains items x → IsUsedList base name key x l → IsUsedList less name key x l
  used_still name key x l at u = record { is_list = u.is_list; issuer = u.issuer; vouched = (u.vouched, lists x l at u.is_list); current = u.current; plain = u.plain }

  used_before : (name key : List ℕ) (x : Item) (l : RevocationList) → IsUsedList less name key x l → IsUsedList base name key x l
  used_before name key x l u = record { is_list = u.is_list; issuer = u.issuer; vouched = u.vouched.0; current = u.current; plain = u.plain }

  satisfied_still : (name key : List ℕ) (serial : Number) → IsSatisfied base items name key serial → IsSatisfied less items name key serial
  satisfied_still name key serial h = record {
    kept = λ v. h.kept (v.0, v.1, v.2, used_before name key v.0 v.1 v.3, v.4);
    listed = λ d. let u = h.listed d in (u.0, u.1, u.2, used_still name key u.0 u.1 u.2 u.3);
  }

  issued_still : (x : Item) (c : Certificate) (name key : List ℕ) → P x.octets → IsIssuedUnder base items x c name key → IsIssuedUnder less items x c name key
  issued_still x c name key p h = record { issuer = h.issuer; vouched = (h.vouched, p); satisfied = satisfied_still name key c.serial h.satisfied }

  link_still : (x y : Item) → P x.octets → IsLink base items x y → IsLink less items x y
  link_still x y p l = (l.0, l.1, (l.2.0, l.2.1, (issued_still x l.0 _ _ p l.2.2.0, l.2.2.1)))

  anchor_still : (x y : Item) → P x.octets → IsAnchorLink base items x y → IsAnchorLink less items x y
  anchor_still x y p l = (l.0, l.1, (l.2.0, l.2.1, issued_still x l.0 _ _ p l.2.2))

  abbrev Permitted : ℕ → Type 0
  Permitted v = IsAt items v (λ x. P x.octets)

  -- of a path of the restricted rules
  permitted_edge : (anchors : List Item) (v w : ℕ) → (graph_of_items less items anchors).Edge v w → Permitted v
  permitted_edge anchors v w e = (e.0, λ d. let l = (e.1 d).1 d in l.2.2.0.vouched.1)

  permitted_anchor : (anchors : List Item) (v a : ℕ) → (graph_of_items less items anchors).AnchorEdge v a → Permitted v
  permitted_anchor anchors v a e = (e.0, λ d. let l = (e.1 d).1 d in l.2.2.vouched.1)

  permitted_next : (anchors : List Item) (ps front back : List ℕ) (v a : ℕ) → AreNeighbours (graph_of_items less items anchors).Edge ps → EndsIn (λ v. (graph_of_items less items anchors).AnchorEdge v a) ps → ps ≡ front ++ v ∷ back → Permitted v
  permitted_next anchors ps front [] v a linked ends is = permitted_anchor anchors v a (ends front v is)
  permitted_next anchors ps front (w ∷ back) v a linked ends is = permitted_edge anchors v w (linked front back v w is)

  all_permitted : (anchors : List Item) (target : ℕ) (ps : List ℕ) (a : ℕ) → IsValidPath (graph_of_items less items anchors) target ps a → All Permitted ps
  all_permitted anchors target ps a v = λ k d lt.
      let here : ps ≡ take k ps ++ get_or ps k d ∷ drop (k + 1) ps = sym (take-append-drop k ps) ∙ ap (λ zs. take k ps ++ zs) (drop_more ps k d lt) in
      permitted_next anchors ps (take k ps) (drop (k + 1) ps) (get_or ps k d) a v.linked v.anchored here

  -- of a path of permitted certificates
  at_place : (ps front back : List ℕ) (v : ℕ) → All Permitted ps → ps ≡ front ++ v ∷ back → Permitted v
  at_place ps front back v all is =
      let n = length-append front (v ∷ back) in
      let m : length ps ≡ length (front ++ v ∷ back) = ap length is in
      let lt : length front < length ps = omega arith in
      subst Permitted (ap (λ zs. get_or zs (length front) v) is ∙ get_or-append_seam front v back v) (all (length front) v lt)

  edge_still : (anchors : List Item) (v w : ℕ) → Permitted v → (graph_of_items base items anchors).Edge v w → (graph_of_items less items anchors).Edge v w
  edge_still anchors v w p e = (e.0, λ d. let h = e.1 d in (h.0, λ f. link_still (get_or items v d) (get_or items w f) (p.1 d) (h.1 f)))

  anchored_still : (anchors : List Item) (v a : ℕ) → Permitted v → (graph_of_items base items anchors).AnchorEdge v a → (graph_of_items less items anchors).AnchorEdge v a
  anchored_still anchors v a p e = (e.0, λ d. let h = e.1 d in (h.0, λ f. anchor_still (get_or items v d) (get_or anchors a f) (p.1 d) (h.1 f)))

  valid_still : (anchors : List Item) (target : ℕ) (ps : List ℕ) (a : ℕ) → IsValidPath (graph_of_items base items anchors) target ps a → All Permitted ps → IsValidPath (graph_of_items less items anchors) target ps a
  valid_still anchors target ps a v all = record {
    issuers = v.issuers;
    starts = v.starts;
    usable = v.usable;
    fit = v.fit;
    linked = λ front back x y is. edge_still anchors x y (at_place ps front (y ∷ back) x all is) (v.linked front back x y is);
    anchored = λ front x is. anchored_still anchors x a (at_place ps front [] x all is) (v.anchored front x is);
    limits = v.limits;
  }

  valid_before : (anchors : List Item) (target : ℕ) (ps : List ℕ) (a : ℕ) → IsValidPath (graph_of_items less items anchors) target ps a → IsValidPath (graph_of_items base items anchors) target ps a
  valid_before anchors target ps a v =
      subst (λ zs. IsValidPath (graph_of_items base items anchors) target zs a) (map_same ps)
      (path_carried (λ v. v) (graph_of_items less items anchors) (graph_of_items base items anchors) (items_carry (λ v. v) less base items items anchors less_is_less (same_items items)) (fit_is_usable base items anchors) target ps a v)

  pub valid_iff : (anchors : List Item) (target : ℕ) (ps : List ℕ) (a : ℕ) → IsValidPath (graph_of_items less items anchors) target ps a ↔ (IsValidPath (graph_of_items base items anchors) target ps a × All Permitted ps)
  valid_iff anchors target ps a = (λ v. (valid_before anchors target ps a v, all_permitted anchors target ps a v), λ h. valid_still anchors target ps a h.0 h.1)

found_in : (items : List Item) (v : ℕ) (lt : v < length items) → Contains items ((element items v lt).0)
found_in items v lt = let x = element items v lt in (v, lt, sym x.1)

-- what is permitted of a certificate at a place is what Q says of it
place_iff : (P : List ℕ → Type 0) (Q : Item → Certificate → Type 0) (items : List Item) → PermitsThose P Q items → (v : ℕ) → IsAt items v (IsCertificateWith (λ c. Unit {0})) → IsAt items v (λ x. P x.octets) ↔ IsCertificateSuch Q items v
place_iff P Q items p v is =
    let x = element items v is.0 in
    let c = has_at items v x.0 x.1 (IsCertificateWith (λ c. Unit {0})) is in
    let i = p.certificates x.0 c.0 (found_in items v is.0) c.1 in
    let S : Item → Type 0 = λ y. (d : Certificate) × (y.class ≡ certificate d) × Q y d in (
      λ h. is_at items v x.0 is.0 x.1 S (c.0, c.1, i.0 (has_at items v x.0 x.1 (λ y. P y.octets) h)),
      λ h. let s = has_at items v x.0 x.1 S h in is_at items v x.0 is.0 x.1 (λ y. P y.octets) (i.1 (subst (Q x.0) (one_certificate x.0.class s.0 c.0 s.1 c.1) s.2)),
    )

are_certificates : (r : JudgingContext) (items anchors : List Item) (target : ℕ) (ps : List ℕ) (a : ℕ) → IsValidPath (graph_of_items r items anchors) target ps a → All (λ v. IsAt items v (IsCertificateWith (λ c. Unit {0}))) ps
are_certificates r items anchors target ps a v = λ k d lt. let u = v.usable k d lt in (u.0, λ e. let c = u.1 e in (c.0, c.1, tt))

pub restricted_paths : (moment : CivilTime) (demand : Bool) (V : Vouching) (P : List ℕ → Type 0) (R : List ℕ → List ℕ → Type 0) (Q : Item → Certificate → Type 0) (items : List Item)
    → PermitsThose P Q items → HasPathsOfThose (rules_at moment demand (processing_too R V)) (rules_at moment demand (restricted_by P R V)) Q items
restricted_paths moment demand V P R Q items p = λ anchors target ps a.
    let i = valid_iff moment demand V P R items p.lists anchors target ps a in (
      λ v.
          let h = i.0 v in
          let c = are_certificates (rules_at moment demand (processing_too R V)) items anchors target ps a h.0 in
          (h.0, λ k d lt. (place_iff P Q items p (get_or ps k d) (c k d lt)).0 (h.1 k d lt)),
      λ h.
          let c = are_certificates (rules_at moment demand (processing_too R V)) items anchors target ps a h.0 in
          i.1 (h.0, λ k d lt. (place_iff P Q items p (get_or ps k d) (c k d lt)).1 (h.1 k d lt)),
    )
