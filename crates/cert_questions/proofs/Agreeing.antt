-- JudgingContext that agree on the questions have equal links.
use Rattle.std.specs.Prelude.{◌↔◌}
use Rattle.std.proofs.Common.{◌≡◌, ◌∙◌, ap, sym, subst, refl, ℕ, ◌+◌, ◌<◌, List, ◌++◌, length, length-append, get_or, slice_get, Some, arith}
use Rattle.std.specs.List.{Contains}
use Rattle.std.proofs.Math.ListN.{get_or-append}
use Rattle.std.proofs.lemmas.List.{get_or-append-add}
use Rattle.std.proofs.lemmas.List.Elements.{Contains-get_or}
use Rattle.std.proofs.lemmas.Option.{slice_get-get_or}
use Rattle.cert_graph.specs.Entries.{IsAt}
use Rattle.cert_graph.specs.Graph.{Graph}
use Rattle.cert_graph.specs.Inventory.{IsTrueInventory, IsTrueVerdict}
use Rattle.cert_graph.specs.Laws.{Agrees, FitIsUsable}
use Rattle.cert_graph.specs.declared.inventory.Inventory.{Inventory}
use Rattle.cert_graph.specs.declared.inventory.Verdict.{Verdict}
use Rattle.cert_graph.specs.declared.inventory.Verdict.TheVariants.{FirstPath, Pathless, NoCertificate}
use Rattle.cert_graph.proofs.AgreeingInventories.{agreed_inventory}
use Rattle.cert_graph.proofs.Agreeing.{agreed_back, agreed_adequate, agreed_true, valid_same}
use Rattle.cert_model.specs.Fields.{CivilTime, Number, Certificate, RevocationList}
use Rattle.cert_model.specs.Octets.{name_octets, key_octets}
use Rattle.cert_model.specs.Class.{certificate}
use Rattle.cert_judge.specs.Judging.{IsUsable, IsFitIssuer}
use Rattle.cert_judge.specs.Revoking.{Item, JudgingContext, IsCurrent, IsUsedList, IsSatisfied}
use Rattle.cert_judge.specs.ItemGraph.{IsIssuedUnder, IsLink, IsAnchorLink, graph_of_items}
use Rattle.cert_judge.proofs.FurtherFacts.{usable_more, fit_more}
use Rattle.cert_judge.proofs.Linking.{fit_is_usable}
use Rattle.cert_questions.specs.Shown.{issuer_of, subject_of, key_of, at_item}
use Rattle.cert_questions.specs.Questions.{Holds, IsQuestion}
use Rattle.cert_questions.specs.Agreeing.{AgreeOnQuestions, SayTheSameOf}
use Rattle.cert_questions.proofs.FirstHolders.{first_holder}

-- under a name and key both rules agree on each item that was issued there
record AgreeUnder (r s : JudgingContext) (items : List Item) (name key : List ℕ) : Type 0 where
  moment : r.moment ≡ s.moment
  demand : r.demand_lists ≡ s.demand_lists
  vouches : (x : Item) → Contains items x → issuer_of x.class ≡ Some name → r.Vouches key x.octets ↔ s.Vouches key x.octets

under_back : (r s : JudgingContext) (items : List Item) (name key : List ℕ) → AgreeUnder r s items name key → AgreeUnder s r items name key
under_back r s items name key a = record {
  moment = sym a.moment;
  demand = sym a.demand;
  vouches = λ x at is. let v = a.vouches x at is in (v.1, v.0);
}

used_same : (r s : JudgingContext) (items : List Item) (name key : List ℕ) → AgreeUnder r s items name key → (x : Item) (l : RevocationList) → Contains items x → IsUsedList r name key x l → IsUsedList s name key x l
used_same r s items name key a x l at u = record {
  is_list = u.is_list;
  issuer = u.issuer;
  vouched = (a.vouches x at (ap issuer_of u.is_list ∙ ap Some u.issuer)).0 u.vouched;
  current = subst (λ (m : CivilTime). IsCurrent m l) a.moment u.current;
  plain = u.plain;
}

satisfied_same : (r s : JudgingContext) (items : List Item) (name key : List ℕ) → AgreeUnder r s items name key → (serial : Number) → IsSatisfied r items name key serial → IsSatisfied s items name key serial
satisfied_same r s items name key a serial h = record {
  kept = λ x. h.kept (x.0, x.1, x.2, used_same s r items name key (under_back r s items name key a) x.0 x.1 x.2 x.3, x.4);
  listed = λ d. let x = h.listed (a.demand ∙ d) in (x.0, x.1, x.2, used_same r s items name key a x.0 x.1 x.2 x.3);
}

issued_same : (r s : JudgingContext) (items : List Item) (name key : List ℕ) → AgreeUnder r s items name key → (x : Item) (c : Certificate) → Contains items x → x.class ≡ certificate c
    → IsIssuedUnder r items x c name key → IsIssuedUnder s items x c name key
issued_same r s items name key a x c at is i = record {
  issuer = i.issuer;
  vouched = (a.vouches x at (ap issuer_of is ∙ ap Some i.issuer)).0 i.vouched;
  satisfied = satisfied_same r s items name key a c.serial i.satisfied;
}

-- a certificate at a place holds its key under its name
holds_from : (items : List Item) (v : ℕ) (y : Item) (d : Certificate) → slice_get items v ≡ Some y → y.class ≡ certificate d → Holds items v (name_octets d.subject) (key_octets d.key)
holds_from items v y d at is = record {
  named = ap (at_item subject_of) at ∙ ap subject_of is;
  keyed = ap (at_item key_of) at ∙ ap key_of is;
}

-- what both say of questions, they say of each item and each holder of a key under its issuer's name
under_from : (r s : JudgingContext) (items anchors : List Item) → AgreeOnQuestions r s items anchors → (name key : List ℕ) (w : ℕ) → Holds (items ++ anchors) w name key → AgreeUnder r s items name key
under_from r s items anchors a name key w holds =
    let first = first_holder (items ++ anchors) name key w holds in
    record {
      moment = a.moment;
      demand = a.demand;
      vouches = λ x at is.
          let here : slice_get items at.0 ≡ Some x = slice_get-get_or items at.0 x at.1 ∙ ap Some at.2 in
          let question : IsQuestion items anchors at.0 first.0 = record { name = name; key = key; issued = ap (at_item issuer_of) here ∙ is; holder = first.1 } in
          a.vouches at.0 first.0 x key question here first.1.holds.keyed;
    }

at_item_place : (items anchors : List Item) (w : ℕ) (d : Item) → w < length items → slice_get (items ++ anchors) w ≡ Some (get_or items w d)
at_item_place items anchors w d lt =
    let long = length-append items anchors in
    slice_get-get_or (items ++ anchors) w d (omega arith) ∙ ap Some (get_or-append items anchors d w lt)

at_anchor_place : (items anchors : List Item) (a : ℕ) (d : Item) → a < length anchors → slice_get (items ++ anchors) (length items + a) ≡ Some (get_or anchors a d)
at_anchor_place items anchors a d lt =
    let long = length-append items anchors in
    slice_get-get_or (items ++ anchors) (length items + a) d (omega arith) ∙ ap Some (get_or-append-add items anchors a d)

contains_at : (items : List Item) (v : ℕ) (d : Item) → v < length items → Contains items (get_or items v d)
contains_at items v d lt = Contains-get_or items v d lt

-- links to certificates and to anchors
edge_same : (r s : JudgingContext) (items anchors : List Item) → AgreeOnQuestions r s items anchors → (v w : ℕ) → IsAt items v (λ x. IsAt items w (λ y. IsLink r items x y)) → IsAt items v (λ x. IsAt items w (λ y. IsLink s items x y))
edge_same r s items anchors a v w h = (
  h.0,
  λ d. let inner = h.1 d in (
    inner.0,
    λ e.
        let l = inner.1 e in
        let x = get_or items v d in
        let y = get_or items w e in
        let own = l.2 in
        let under = under_from r s items anchors a (name_octets own.0.subject) (key_octets own.0.key) w (holds_from (items ++ anchors) w y own.0 (at_item_place items anchors w e inner.0) own.1) in
        (l.0, l.1, (own.0, own.1, (issued_same r s items _ _ under x l.0 (contains_at items v d h.0) l.1 own.2.0, own.2.1))),
  ),
)

anchor_same : (r s : JudgingContext) (items anchors : List Item) → AgreeOnQuestions r s items anchors → (v w : ℕ) → IsAt items v (λ x. IsAt anchors w (λ y. IsAnchorLink r items x y)) → IsAt items v (λ x. IsAt anchors w (λ y. IsAnchorLink s items x y))
anchor_same r s items anchors a v w h = (
  h.0,
  λ d. let inner = h.1 d in (
    inner.0,
    λ e.
        let l = inner.1 e in
        let x = get_or items v d in
        let y = get_or anchors w e in
        let own = l.2 in
        let under = under_from r s items anchors a (name_octets own.0.subject) (key_octets own.0.key) (length items + w) (holds_from (items ++ anchors) (length items + w) y own.0 (at_anchor_place items anchors w e inner.0) own.1) in
        (l.0, l.1, (own.0, own.1, issued_same r s items _ _ under x l.0 (contains_at items v d h.0) l.1 own.2)),
  ),
)

back : (r s : JudgingContext) (items anchors : List Item) → AgreeOnQuestions r s items anchors → AgreeOnQuestions s r items anchors
back r s items anchors a = record {
  moment = sym a.moment;
  demand = sym a.demand;
  vouches = λ v h x key q at keyed. let w = a.vouches v h x key q at keyed in (w.1, w.0);
  processed = λ x c id at is. let p = a.processed x c id at is in (p.1, p.0);
}

usable_same : (r s : JudgingContext) (items anchors : List Item) → AgreeOnQuestions r s items anchors → (v : ℕ) → (graph_of_items r items anchors).Usable v → (graph_of_items s items anchors).Usable v
usable_same r s items anchors a v h = (
  h.0,
  λ d.
      let u = h.1 d in
      let x = get_or items v d in
      let before : IsUsable (r.Processes x.octets) s.moment u.0 = subst (λ (m : CivilTime). IsUsable (r.Processes x.octets) m u.0) a.moment u.2 in
      (u.0, u.1, usable_more (r.Processes x.octets) (s.Processes x.octets) s.moment u.0 (λ id. (a.processed x u.0 id (contains_at items v d h.0) u.1).0) before),
)

fit_same : (r s : JudgingContext) (items anchors : List Item) → AgreeOnQuestions r s items anchors → (v : ℕ) → (graph_of_items r items anchors).Fit v → (graph_of_items s items anchors).Fit v
fit_same r s items anchors a v h = (
  h.0,
  λ d.
      let u = h.1 d in
      let x = get_or items v d in
      let before : IsFitIssuer (r.Processes x.octets) s.moment u.0 = subst (λ (m : CivilTime). IsFitIssuer (r.Processes x.octets) m u.0) a.moment u.2 in
      (u.0, u.1, fit_more (r.Processes x.octets) (s.Processes x.octets) s.moment u.0 (λ id. (a.processed x u.0 id (contains_at items v d h.0) u.1).0) before),
)

pub links_agree : (r s : JudgingContext) (items anchors : List Item) → AgreeOnQuestions r s items anchors → Agrees (graph_of_items r items anchors) (graph_of_items s items anchors)
links_agree r s items anchors a = record {
  items = refl;
  certificate = λ v. (λ h. h, λ h. h);
  usable = λ v. (usable_same r s items anchors a v, usable_same s r items anchors (back r s items anchors a) v);
  fit = λ v. (fit_same r s items anchors a v, fit_same s r items anchors (back r s items anchors a) v);
  self_issued = λ v. refl;
  limit = λ v f. refl;
  edge = λ v w f. (edge_same r s items anchors a v w, edge_same s r items anchors (back r s items anchors a) v w);
  anchored = λ v w. (anchor_same r s items anchors a v w, anchor_same s r items anchors (back r s items anchors a) v w);
}

verdict_carried : (g h : Graph) → Agrees g h → FitIsUsable g → FitIsUsable h → (target : ℕ) (verdict : Verdict) → IsTrueVerdict g target verdict → IsTrueVerdict h target verdict
verdict_carried g h e fit fit_too target (FirstPath ps a) k = record {
  valid = valid_same g h e fit_too target ps.items a k.valid;
  first = λ qs b v before. k.first qs b (valid_same h g (agreed_back g h e) fit target qs b v) before;
}
verdict_carried g h e fit fit_too target Pathless k = ((e.certificate target).0 k.0, λ ps a v. k.1 ps a (valid_same h g (agreed_back g h e) fit target ps a v))
verdict_carried g h e fit fit_too target NoCertificate k = λ x. k ((e.certificate target).1 x)

inventory_carried : (g h : Graph) → Agrees g h → FitIsUsable g → FitIsUsable h → (inventory : Inventory) → IsTrueInventory g inventory → IsTrueInventory h inventory
inventory_carried g h e fit fit_too inventory k = record {
  count = k.count ∙ e.items;
  each = λ target within d. verdict_carried g h e fit fit_too target (get_or inventory.verdicts.items target d) (k.each target within d);
}

pub say_the_same : (r s : JudgingContext) (items anchors : List Item) → AgreeOnQuestions r s items anchors → SayTheSameOf r s items anchors
say_the_same r s items anchors a =
    let g = graph_of_items r items anchors in
    let h = graph_of_items s items anchors in
    let agree = links_agree r s items anchors a in
    let fit = fit_is_usable r items anchors in
    let fit_too = fit_is_usable s items anchors in
    record {
      paths = λ target ps b. (λ p. valid_same g h agree fit_too target ps b p, λ p. valid_same h g (agreed_back g h agree) fit target ps b p);
      holds = λ target answer. agreed_true g h agree fit target answer;
      adequate = λ target answer. agreed_adequate g h agree fit target answer;
      true_inventories = λ inventory. (inventory_carried g h agree fit fit_too inventory, inventory_carried h g (agreed_back g h agree) fit_too fit inventory);
      adequate_inventories = λ inventory. agreed_inventory g h agree fit inventory;
    }
