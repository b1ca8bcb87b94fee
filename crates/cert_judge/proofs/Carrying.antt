-- Items that keep certificates and lists keep paths.
use Rattle.std.specs.Prelude.{◌↔◌}
use Rattle.std.proofs.Common.{◌≡◌, ◌≢◌, ◌∙◌, ap, sym, subst, refl, zero, suc, ℕ, ◌<◌, Bool, false, List, [], ◌∷◌, ◌++◌, map, length, length-append, arith, get_or, inl, inr}
use Rattle.std.specs.List.{All, Contains}
use Rattle.std.proofs.Math.ListN.{get_or-append}
use Rattle.std.proofs.Math.Seq.{get_or-append_seam}
use Rattle.std.proofs.lemmas.Bool.{cases_lt}
use Rattle.std.proofs.lemmas.List.{get_or-map, length-map}
use Rattle.cert_graph.specs.declared.reach.Reach.{Reach}
use Rattle.cert_graph.specs.declared.reach.Reach.TheVariants.{No}
use Rattle.cert_graph.specs.Reach.{Takes}
use Rattle.cert_graph.specs.Graph.{IsValidPath}
use Rattle.cert_graph.specs.Entries.{IsAt}
use Rattle.cert_graph.specs.Inventory.{IsTrueInventory}
use Rattle.cert_graph.specs.LawsOfInventories.{SayTheSameOfAll}
use Rattle.cert_graph.specs.declared.inventory.Inventory.{Inventory}
use Rattle.cert_graph.proofs.OneInventory.{one_inventory}
use Rattle.cert_graph.specs.Laws.{Carries, Agrees, UsableIsCertificate}
use Rattle.cert_graph.specs.LawsOfNodes.{SayTheSame}
use Rattle.cert_graph.proofs.Unique.{one_true_answer}
use Rattle.cert_graph.specs.declared.answer.Answer.{Answer}
use Rattle.cert_graph.specs.Adequate.{IsTrueAnswer}
use Rattle.cert_graph.proofs.Agreeing.{agreed_true}
use Rattle.cert_graph.proofs.PathLaws.{path_carried}
use Rattle.cert_graph.proofs.EntryFacts.{is_at, has_at}
use Rattle.cert_model.specs.Fields.{Number, Certificate, RevocationList}
use Rattle.cert_model.specs.Class.{Class, certificate, list, other}
use Rattle.cert_judge.specs.Judging.{IsUsable, IsFitIssuer}
use Rattle.cert_judge.specs.Revoking.{Item, JudgingContext, IsCurrent, IsUsedList, IsSatisfied}
use Rattle.cert_judge.specs.ItemGraph.{IsCertificateWith, IsIssuedUnder, IsLink, IsAnchorLink, self_issued_of, limit_of, graph_of_items}
use Rattle.cert_judge.specs.LawsOfItems.{VouchesForMore, Keeps, HasPathsOf, HasPathOf, IsValidAt}
use Rattle.cert_judge.proofs.Grouping.{element}
use Rattle.cert_judge.proofs.Linking.{fit_is_usable}
use Rattle.cert_judge.proofs.FurtherFacts.{usable_more, fit_more}

contained : (items : List Item) (v : ℕ) (x : Item) → v < length items → x ≡ get_or items v x → Contains items x
contained items v x lt is = (v, lt, sym is)

-- a certificate at a place goes to its other place
moved : (f : ℕ → ℕ) (items others : List Item) → Keeps f items others → (P Q : Item → Certificate → Type 0) → ((x : Item) (c : Certificate) → Contains items x → x.class ≡ certificate c → P x c → Q x c) → (v : ℕ)
    → IsAt items v (λ x. IsCertificateWith (P x) x) → IsAt others (f v) (λ x. IsCertificateWith (Q x) x)
moved f items others k P Q g v h =
    let x = element items v h.0 in
    let p = has_at items v x.0 x.1 (λ y. IsCertificateWith (P y) y) h in
    let there = k.certificates v x.0 p.0 (is_at items v x.0 h.0 x.1 (λ y. y ≡ x.0) refl) p.1 in
    (there.0, λ d. subst (λ y. IsCertificateWith (Q y) y) (sym (there.1 d)) (p.0, p.1, g x.0 p.0 (contained items v x.0 h.0 x.1) p.1 p.2))

-- what a place shows of its item
shown : {Z : Type 0} (g : Item → Z) (z : Z) (items : List Item) (v : ℕ) (x : Item) → IsAt items v (λ y. y ≡ x) → get_or (map g items) v z ≡ g x
shown g z items v x h = get_or-map g items v x z h.0 ∙ ap g (h.1 x)

same_shown : {Z : Type 0} (g : Item → Z) (z : Z) (f : ℕ → ℕ) (items others : List Item) → Keeps f items others → (P : Item → Certificate → Type 0) (v : ℕ) → IsAt items v (λ x. IsCertificateWith (P x) x) → get_or (map g others) (f v) z ≡ get_or (map g items) v z
same_shown g z f items others k P v h =
    let x = element items v h.0 in
    let p = has_at items v x.0 x.1 (λ y. IsCertificateWith (P y) y) h in
    let here = is_at items v x.0 h.0 x.1 (λ y. y ≡ x.0) refl in
    shown g z others (f v) x.0 (k.certificates v x.0 p.0 here p.1) ∙ sym (shown g z items v x.0 here)

used_more : (r s : JudgingContext) (items : List Item) → VouchesForMore r s items → (name key : List ℕ) (x : Item) (l : RevocationList) → Contains items x → IsUsedList r name key x l → IsUsedList s name key x l
used_more r s items m name key x l at u = record {
  is_list = u.is_list;
  issuer = u.issuer;
  vouched = (m.lists x l key at u.is_list).0 u.vouched;
  current = subst (λ t. IsCurrent t l) m.moment u.current;
  plain = u.plain;
}

used_less : (r s : JudgingContext) (items : List Item) → VouchesForMore r s items → (name key : List ℕ) (x : Item) (l : RevocationList) → Contains items x → IsUsedList s name key x l → IsUsedList r name key x l
used_less r s items m name key x l at u = record {
  is_list = u.is_list;
  issuer = u.issuer;
  vouched = (m.lists x l key at u.is_list).1 u.vouched;
  current = subst (λ t. IsCurrent t l) (sym m.moment) u.current;
  plain = u.plain;
}

satisfied_more : (f : ℕ → ℕ) (r s : JudgingContext) (items others : List Item) → VouchesForMore r s items → Keeps f items others → (name key : List ℕ) (serial : Number) → IsSatisfied r items name key serial → IsSatisfied s others name key serial
satisfied_more f r s items others m k name key serial h = record {
  kept = λ v. let at = (k.lists v.0 v.1 v.3.is_list).1 v.2 in h.kept (v.0, v.1, at, used_less r s items m name key v.0 v.1 at v.3, v.4);
  listed = λ d. let u = h.listed (m.demand ∙ d) in (u.0, u.1, (k.lists u.0 u.1 u.3.is_list).0 u.2, used_more r s items m name key u.0 u.1 u.2 u.3);
}

issued_more : (f : ℕ → ℕ) (r s : JudgingContext) (items others : List Item) → VouchesForMore r s items → Keeps f items others → (x : Item) (c : Certificate) (name key : List ℕ) → Contains items x → x.class ≡ certificate c → IsIssuedUnder r items x c name key → IsIssuedUnder s others x c name key
issued_more f r s items others m k x c name key at is h = record { issuer = h.issuer; vouched = m.certificates x c key at is h.vouched; satisfied = satisfied_more f r s items others m k name key c.serial h.satisfied }

pub items_carry : (f : ℕ → ℕ) (r s : JudgingContext) (items others anchors : List Item) → VouchesForMore r s items → Keeps f items others → Carries f (graph_of_items r items anchors) (graph_of_items s others anchors)
items_carry f r s items others anchors m k = record {
  usable = λ v h.
      moved f items others k (λ x. IsUsable (r.Processes x.octets) r.moment) (λ x. IsUsable (s.Processes x.octets) s.moment)
      (λ x c at is u. usable_more (r.Processes x.octets) (s.Processes x.octets) s.moment c (λ id. m.processed x c id at is) (subst (λ t. IsUsable (r.Processes x.octets) t c) m.moment u)) v h;
  fit = λ v h.
      moved f items others k (λ x. IsFitIssuer (r.Processes x.octets) r.moment) (λ x. IsFitIssuer (s.Processes x.octets) s.moment)
      (λ x c at is u. fit_more (r.Processes x.octets) (s.Processes x.octets) s.moment c (λ id. m.processed x c id at is) (subst (λ t. IsFitIssuer (r.Processes x.octets) t c) m.moment u)) v h;
  self_issued = λ v h. same_shown (λ (x : Item). self_issued_of x.class) false f items others k (λ x. IsFitIssuer (r.Processes x.octets) r.moment) v h;
  limit = λ v c h t. subst (λ (z : Reach). Takes z c) (sym (same_shown (λ (x : Item). limit_of x.class) No f items others k (λ x. IsFitIssuer (r.Processes x.octets) r.moment) v h)) t;
  edge = λ v w fit h.
      let x = element items v h.0 in
      let h' = has_at items v x.0 x.1 (λ x. IsAt items w (λ y. IsLink r items x y)) h in
      let y = element items w h'.0 in
      let l = has_at items w y.0 y.1 (λ y. IsLink r items x.0 y) h' in
      let a = k.certificates v x.0 l.0 (is_at items v x.0 h.0 x.1 (λ z. z ≡ x.0) refl) l.1 in
      let b = k.certificates w y.0 l.2.0 (is_at items w y.0 h'.0 y.1 (λ z. z ≡ y.0) refl) l.2.1 in
      let link : IsLink s others x.0 y.0 = (l.0, l.1, (l.2.0, l.2.1, (issued_more f r s items others m k x.0 l.0 _ _ (contained items v x.0 h.0 x.1) l.1 l.2.2.0, l.2.2.1))) in
      (a.0, λ d. (b.0, λ e. subst (λ z. IsLink s others z (get_or others (f w) e)) (sym (a.1 d)) (subst (IsLink s others x.0) (sym (b.1 e)) link)));
  anchored = λ v w h.
      let x = element items v h.0 in
      let h' = has_at items v x.0 x.1 (λ x. IsAt anchors w (λ y. IsAnchorLink r items x y)) h in
      let y = element anchors w h'.0 in
      let l = has_at anchors w y.0 y.1 (λ y. IsAnchorLink r items x.0 y) h' in
      let a = k.certificates v x.0 l.0 (is_at items v x.0 h.0 x.1 (λ z. z ≡ x.0) refl) l.1 in
      let link : IsAnchorLink s others x.0 y.0 = (l.0, l.1, (l.2.0, l.2.1, issued_more f r s items others m k x.0 l.0 _ _ (contained items v x.0 h.0 x.1) l.1 l.2.2)) in
      (a.0, λ d. is_at anchors w y.0 h'.0 y.1 (λ y. IsAnchorLink s others (get_or others (f v) d) y) (subst (λ z. IsAnchorLink s others z y.0) (sym (a.1 d)) link));
}

pub items_keep_paths : (f : ℕ → ℕ) (r s : JudgingContext) (items others anchors : List Item) → VouchesForMore r s items → Keeps f items others → HasPathsOf f r s items others anchors
items_keep_paths f r s items others anchors m k = λ target ps a v.
    (map f ps, length-map ps f, path_carried f (graph_of_items r items anchors) (graph_of_items s others anchors) (items_carry f r s items others anchors m k) (fit_is_usable s others anchors) target ps a v)

pub same_rules : (r : JudgingContext) (items : List Item) → VouchesForMore r r items
same_rules r items = record { moment = refl; demand = refl; certificates = λ x c key at is v. v; lists = λ x l key at is. (λ v. v, λ v. v); processed = λ x c id at is p. p }

pub same_items : (items : List Item) → Keeps (λ v. v) items items
same_items items = record { certificates = λ v x c at is. at; lists = λ x l is. (λ h. h, λ h. h) }

never_both : (l : RevocationList) (d : Certificate) → list l ≡ certificate d → ⊥
never_both l d e = cc

-- a further certificate after the others
pub one_item_more : (items : List Item) (y : Item) (d : Certificate) → y.class ≡ certificate d → Keeps (λ v. v) items (items ++ y ∷ [])
one_item_more items y d is_y =
    let long = length-append items (y ∷ []) in record {
      certificates = λ v x c at is. let lt = at.0 in (omega arith, λ e. get_or-append items (y ∷ []) e v at.0 ∙ at.1 e);
      lists = λ x l is. (
        λ h. let lt = h.1 in (h.0, omega arith, get_or-append items (y ∷ []) x h.0 h.1 ∙ h.2),
        λ h. elim (cases_lt h.0 (length items)) [
          | inl lt ↦ (h.0, lt, sym (get_or-append items (y ∷ []) x h.0 lt) ∙ h.2)
          | inr past ↦
              let place = h.1 in
              let same : h.0 ≡ length items = omega arith in
              let here : x ≡ y = sym h.2 ∙ ap (λ i. get_or (items ++ y ∷ []) i x) same ∙ get_or-append_seam items y [] x in
              let k = sym is ∙ ap (λ (z : Item). z.class) here ∙ is_y in
              absurd (never_both l d k)
        ],
      );
    }

-- of a valid path each certificate is valid at the moment
pub path_is_valid : (r : JudgingContext) (items anchors : List Item) (target : ℕ) (ps : List ℕ) (a : ℕ) → IsValidPath (graph_of_items r items anchors) target ps a → All (IsValidAt items r.moment) ps
path_is_valid r items anchors target ps a v = λ k d lt. let u = v.usable k d lt in (u.0, λ e. let c = u.1 e in (c.0, c.1, c.2.valid))

-- there and back again
pub kept_both_ways : (r : JudgingContext) (items others anchors : List Item) (f g : ℕ → ℕ) (target : ℕ) → Keeps f items others → Keeps g others items → g (f target) ≡ target
    → (n : ℕ) → HasPathOf r items anchors target n ↔ HasPathOf r others anchors (f target) n
kept_both_ways r items others anchors f g target there back same n = (
  λ h. let v = items_keep_paths f r r items others anchors (same_rules r items) there target h.0 h.1 h.3 in (v.0, h.1, v.1 ∙ h.2, v.2),
  λ h.
      let v = items_keep_paths g r r others items anchors (same_rules r others) back (f target) h.0 h.1 h.3 in
      (v.0, h.1, v.1 ∙ h.2, subst (λ t. IsValidPath (graph_of_items r items anchors) t v.0 h.1) same v.2),
)

-- lists that differ at one place
elsewhere : (front back : List Item) (x y : Item) (v : ℕ) (d : Item) → v ≢ length front → get_or (front ++ x ∷ back) v d ≡ get_or (front ++ y ∷ back) v d
elsewhere [] back x y zero d n = absurd (n refl)
elsewhere [] back x y (suc v) d n = refl
elsewhere (z ∷ front) back x y zero d n = refl
elsewhere (z ∷ front) back x y (suc v) d n = elsewhere front back x y v d (λ e. n (ap suc e))

as_long : (front back : List Item) (x y : Item) → length (front ++ x ∷ back) ≡ length (front ++ y ∷ back)
as_long front back x y = length-append front (x ∷ back) ∙ sym (length-append front (y ∷ back))

other_is_none : (k : Class) (z : Item) (x : Item) → z ≡ x → x.class ≡ other → z.class ≡ k → k ≡ other
other_is_none k z x e is_x is_z = sym is_z ∙ ap (λ (i : Item). i.class) e ∙ is_x

not_certificate : (c : Certificate) → certificate c ≡ other → ⊥
not_certificate c e = cc

not_list : (l : RevocationList) → list l ≡ other → ⊥
not_list l e = cc

kept_at : (front back : List Item) (x y : Item) (k : Class) → (k ≡ other → ⊥) → x.class ≡ other → (v : ℕ) (z : Item) → z.class ≡ k → (v < length (front ++ x ∷ back)) → get_or (front ++ x ∷ back) v z ≡ z → v ≢ length front
kept_at front back x y k apart is_x v z is_z lt at = λ e.
    let here : z ≡ x = sym at ∙ ap (λ i. get_or (front ++ x ∷ back) i z) e ∙ get_or-append_seam front x back z in
    apart (other_is_none k z x here is_x is_z)

pub exchanged_keeps : (front back : List Item) (x y : Item) → x.class ≡ other → y.class ≡ other → Keeps (λ v. v) (front ++ x ∷ back) (front ++ y ∷ back)
exchanged_keeps front back x y is_x is_y =
    let long = as_long front back x y in record {
      certificates = λ v z c at is_z.
          let apart = kept_at front back x y (certificate c) (not_certificate c) is_x v z is_z at.0 (at.1 z) in
          let lt = at.0 in
          (omega arith, λ d. sym (elsewhere front back x y v d apart) ∙ at.1 d);
      lists = λ z l is_z. (
        λ h.
            let apart = kept_at front back x y (list l) (not_list l) is_x h.0 z is_z h.1 h.2 in
            let lt = h.1 in
            (h.0, omega arith, sym (elsewhere front back x y h.0 z apart) ∙ h.2),
        λ h.
            let apart = kept_at front back y x (list l) (not_list l) is_y h.0 z is_z h.1 h.2 in
            let lt = h.1 in
            (h.0, omega arith, elsewhere front back x y h.0 z apart ∙ h.2),
      );
    }

-- what is shown of two others is equal
shown_alike : {Z : Type 0} (g : Class → Z) (front back : List Item) (x y : Item) → x.class ≡ other → y.class ≡ other → map (λ (i : Item). g i.class) (front ++ x ∷ back) ≡ map (λ (i : Item). g i.class) (front ++ y ∷ back)
shown_alike g [] back x y is_x is_y = ap (λ k. g k ∷ map (λ (i : Item). g i.class) back) (is_x ∙ sym is_y)
shown_alike g (z ∷ front) back x y is_x is_y = ap (λ l. g z.class ∷ l) (shown_alike g front back x y is_x is_y)

pub exchanged_agrees : (r : JudgingContext) (front back anchors : List Item) (x y : Item) → x.class ≡ other → y.class ≡ other → Agrees (graph_of_items r (front ++ x ∷ back) anchors) (graph_of_items r (front ++ y ∷ back) anchors)
exchanged_agrees r front back anchors x y is_x is_y =
    let items = front ++ x ∷ back in
    let others = front ++ y ∷ back in
    let k = exchanged_keeps front back x y is_x is_y in
    let l = exchanged_keeps front back y x is_y is_x in
    let a = items_carry (λ v. v) r r items others anchors (same_rules r items) k in
    let b = items_carry (λ v. v) r r others items anchors (same_rules r others) l in
    record {
      items = as_long front back x y;
      certificate = λ v. (moved (λ v. v) items others k (λ x c. Unit {0}) (λ x c. Unit {0}) (λ x c at is u. u) v, moved (λ v. v) others items l (λ x c. Unit {0}) (λ x c. Unit {0}) (λ x c at is u. u) v);
      usable = λ v. (a.usable v, b.usable v);
      fit = λ v. (a.fit v, b.fit v);
      self_issued = λ v. ap (λ (s : List Bool). get_or s v false) (shown_alike self_issued_of front back y x is_y is_x);
      limit = λ v f. ap (λ (s : List Reach). get_or s v No) (shown_alike limit_of front back y x is_y is_x);
      edge = λ v w f. (a.edge v w f, b.edge v w (a.fit w f));
      anchored = λ v w. (a.anchored v w, b.anchored v w);
    }

pub exchanged_true : (r : JudgingContext) (front back anchors : List Item) (x y : Item) → x.class ≡ other → y.class ≡ other → (target : ℕ) (answer : Answer)
    → IsTrueAnswer (graph_of_items r (front ++ x ∷ back) anchors) target answer ↔ IsTrueAnswer (graph_of_items r (front ++ y ∷ back) anchors) target answer
exchanged_true r front back anchors x y is_x is_y target answer =
    agreed_true (graph_of_items r (front ++ x ∷ back) anchors) (graph_of_items r (front ++ y ∷ back) anchors) (exchanged_agrees r front back anchors x y is_x is_y) (fit_is_usable r (front ++ x ∷ back) anchors) target answer

-- an anchor item that is no certificate bounds no link, nor does another in its place
bounds_as_before : (r : JudgingContext) (items front back : List Item) (x y : Item) → ((c : Certificate) → x.class ≡ certificate c → ⊥) → (v a : ℕ) → IsAt items v (λ z. IsAt (front ++ x ∷ back) a (λ b. IsAnchorLink r items z b))
    → IsAt items v (λ z. IsAt (front ++ y ∷ back) a (λ b. IsAnchorLink r items z b))
bounds_as_before r items front back x y none v a h = (
  h.0,
  λ d.
      let there = h.1 d in
      let long = as_long front back x y in
      let lt = there.0 in
      let apart : a ≢ length front = λ e.
      let l = there.1 x in
      let here : get_or (front ++ x ∷ back) a x ≡ x = ap (λ i. get_or (front ++ x ∷ back) i x) e ∙ get_or-append_seam front x back x in
      none l.2.0 (sym (ap (λ (i : Item). i.class) here) ∙ l.2.1) in
      (omega arith, λ e. subst (IsAnchorLink r items (get_or items v d)) (elsewhere front back x y a e apart) (there.1 e)),
)

anchors_agree : (r : JudgingContext) (items front back : List Item) (x y : Item) → ((c : Certificate) → x.class ≡ certificate c → ⊥) → ((c : Certificate) → y.class ≡ certificate c → ⊥)
    → Agrees (graph_of_items r items (front ++ x ∷ back)) (graph_of_items r items (front ++ y ∷ back))
anchors_agree r items front back x y no_x no_y = record {
  items = refl;
  certificate = λ v. (λ h. h, λ h. h);
  usable = λ v. (λ h. h, λ h. h);
  fit = λ v. (λ h. h, λ h. h);
  self_issued = λ v. refl;
  limit = λ v f. refl;
  edge = λ v w f. (λ h. h, λ h. h);
  anchored = λ v a. (bounds_as_before r items front back x y no_x v a, bounds_as_before r items front back y x no_y v a);
}

pub exchanged_anchor_true : (r : JudgingContext) (items front back : List Item) (x y : Item) → ((c : Certificate) → x.class ≡ certificate c → ⊥) → ((c : Certificate) → y.class ≡ certificate c → ⊥) → (target : ℕ) (answer : Answer)
    → IsTrueAnswer (graph_of_items r items (front ++ x ∷ back)) target answer ↔ IsTrueAnswer (graph_of_items r items (front ++ y ∷ back)) target answer
exchanged_anchor_true r items front back x y no_x no_y target answer =
    agreed_true (graph_of_items r items (front ++ x ∷ back)) (graph_of_items r items (front ++ y ∷ back)) (anchors_agree r items front back x y no_x no_y) (fit_is_usable r items (front ++ x ∷ back)) target answer

-- whatever is usable is a certificate
usable_is_certificate : (r : JudgingContext) (items anchors : List Item) → UsableIsCertificate (graph_of_items r items anchors)
usable_is_certificate r items anchors v u = (u.0, λ d. let c = u.1 d in (c.0, c.1, tt))

pub one_answer : (r : JudgingContext) (items anchors : List Item) (target : ℕ) (answer another : Answer) → IsTrueAnswer (graph_of_items r items anchors) target answer → IsTrueAnswer (graph_of_items r items anchors) target another → SayTheSame answer another
one_answer r items anchors = one_true_answer (graph_of_items r items anchors) (usable_is_certificate r items anchors)

pub one_inventory_of : (r : JudgingContext) (items anchors : List Item) (inventory another : Inventory) → IsTrueInventory (graph_of_items r items anchors) inventory → IsTrueInventory (graph_of_items r items anchors) another
    → SayTheSameOfAll inventory another
one_inventory_of r items anchors = one_inventory (graph_of_items r items anchors) (usable_is_certificate r items anchors)
