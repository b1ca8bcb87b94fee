-- Nodes of judged items say what the definitions say.
use Rattle.std.specs.Prelude.{◌↔◌}
use Rattle.std.proofs.Common.{◌≡◌, ◌∙◌, ap, sym, subst, refl, ℕ, ◌+◌, ◌<◌, Bool, true, false, List, [], ◌∷◌, ◌++◌, map, length, length-append, arith, get_or, inl, inr}
use Rattle.std.specs.List.{All, Any}
use Rattle.std.proofs.Math.ListN.{get_or-append}
use Rattle.std.proofs.Math.Seq.{get_or-append_seam}
use Rattle.std.proofs.lemmas.Bool.{cases_lt}
use Rattle.std.proofs.lemmas.List.{get_or-map, length-map, get_or_past, get_or_default}
use Rattle.cert_graph.specs.declared.nodes.Node.{Node}
use Rattle.cert_graph.specs.declared.nodes.Group.{Group}
use Rattle.cert_graph.specs.declared.nodes.Nodes.{Nodes}
use Rattle.cert_graph.specs.declared.reach.Reach.TheVariants.{No}
use Rattle.cert_graph.specs.Reach.{reach_of}
use Rattle.cert_graph.specs.Laws.{Agrees}
use Rattle.cert_graph.specs.Nodes.{graph_of, Links, LinksToAnchor, HasLink, HasAnchorLink}
use Rattle.cert_graph.specs.Entries.{IsAt}
use Rattle.cert_graph.specs.Links.{IsWithin, Adds}
use Rattle.cert_model.specs.Fields.{CivilTime}
use Rattle.cert_judge.specs.declared.judged.JudgedItem.{JudgedItem}
use Rattle.cert_judge.specs.Vouching.{Vouching}
use Rattle.cert_judge.specs.Judging.{IsUsable, IsFitIssuer}
use Rattle.cert_judge.specs.Further.{any_identifier}
use Rattle.cert_judge.specs.Revoking.{Item}
use Rattle.cert_judge.specs.Items.{rules_at}
use Rattle.cert_judge.specs.ItemGraph.{IsCertificateWith, self_issued_of, limit_of, graph_of_items}
use Rattle.cert_judge.specs.JudgedItems.{IsNodeOf, IsNodeFor, IsJudged, AreJudged, AreNodesFor}
use Rattle.cert_judge.specs.NamedLinks.{IsSomeLink, IsSomeAnchor}
use Rattle.cert_judge.proofs.Grouping.{element}
use Rattle.cert_judge.proofs.FurtherFacts.{fit_more}
use Rattle.cert_judge.proofs.Bridging.{edge_iff, anchor_edge_iff}

-- one element more, related to the element at its place
pub pushed_all : {X Y : Type 0} (R : X → Y → Type 0) (xs : List X) (ys : List Y) (k : ℕ) (y : Y) → length ys ≡ k → ((v : ℕ) (x : X) (d : Y) → v < k → R (get_or xs v x) (get_or ys v d)) → ((x : X) → R (get_or xs k x) y)
    → (v : ℕ) (x : X) (d : Y) → v < k + 1 → R (get_or xs v x) (get_or (ys ++ y ∷ []) v d)
pushed_all R xs ys k y count h new v x d lt =
    elim (cases_lt v k) [
      | inl less ↦ let below : v < length ys = omega arith in subst (R (get_or xs v x)) (sym (get_or-append ys (y ∷ []) d v below)) (h v x d less)
      | inr past ↦
          let same : k ≡ v = omega arith in
          let end : length ys ≡ v = omega arith in
          let at : get_or (ys ++ y ∷ []) v d ≡ y = subst (λ i. get_or (ys ++ y ∷ []) i d ≡ y) end (get_or-append_seam ys y [] d) in
          subst (R (get_or xs v x)) (sym at) (subst (λ i. R (get_or xs i x) y) same (new x))
    ]

pub nodes_none : (Q : List ℕ → List ℕ → Type 0) (js : List JudgedItem) → AreNodesFor Q js [] 0
nodes_none Q js = record { count = refl; each = λ v j n lt. absurd (omega arith) }

pub nodes_more : (Q : List ℕ → List ℕ → Type 0) (js : List JudgedItem) (nodes : List Node) (k : ℕ) (n : Node) → AreNodesFor Q js nodes k → ((j : JudgedItem) → IsNodeFor Q (get_or js k j) n)
    → AreNodesFor Q js (nodes ++ n ∷ []) (k + 1)
nodes_more Q js nodes k n h new =
    let long = length-append nodes (n ∷ []) in
    let count = h.count in
    record { count = omega arith; each = pushed_all (IsNodeFor Q) js nodes k n h.count h.each new }

-- so many items are judged
pub record JudgedUpTo (moment : CivilTime) (xs : List Item) (js : List JudgedItem) (k : ℕ) : Type 0 where
  pub count : length js ≡ k
  pub each : (v : ℕ) (x : Item) (j : JudgedItem) → v < k → IsJudged moment (get_or xs v x) (get_or js v j)

pub judged_none : (moment : CivilTime) (xs : List Item) → JudgedUpTo moment xs [] 0
judged_none moment xs = record { count = refl; each = λ v x j lt. absurd (omega arith) }

pub judged_more : (moment : CivilTime) (xs : List Item) (js : List JudgedItem) (k : ℕ) (j : JudgedItem) → JudgedUpTo moment xs js k → ((x : Item) → IsJudged moment (get_or xs k x) j) → JudgedUpTo moment xs (js ++ j ∷ []) (k + 1)
judged_more moment xs js k j h new =
    let long = length-append js (j ∷ []) in
    let count = h.count in
    record { count = omega arith; each = pushed_all (IsJudged moment) xs js k j h.count h.each new }

pub judged_all : (moment : CivilTime) (xs : List Item) (js : List JudgedItem) (k : ℕ) → k ≡ length xs → JudgedUpTo moment xs js k → AreJudged moment xs js
judged_all moment xs js k end h = record { count = h.count ∙ end; each = λ v x j lt. h.each v x j (omega arith) }

-- what relates elements of one place relates what is said of them
at_iff : {X Y : Type 0} (xs : List X) (ys : List Y) (P : X → Type 0) (Q : Y → Type 0) → length xs ≡ length ys → (v : ℕ) → ((x : X) (y : Y) → v < length ys → P (get_or xs v x) ↔ Q (get_or ys v y)) → IsAt xs v P ↔ IsAt ys v Q
at_iff xs ys P Q same v iff = (
  λ h. let lt : v < length ys = omega (arith, h.0) in let x = element xs v h.0 in (lt, λ y. (iff x.0 y lt).0 (h.1 x.0)),
  λ h. let lt : v < length xs = omega (arith, h.0) in let y = element ys v h.0 in (lt, λ x. (iff x y.0 h.0).1 (h.1 y.0)),
)

-- what relates elements of one place relates a function's values
seen : {X Y Z : Type 0} (xs : List X) (ys : List Y) (f : X → Z) (g : Y → Z) (z : Z) → length xs ≡ length ys → (v : ℕ) → (v < length ys → (x : X) (y : Y) → f (get_or xs v x) ≡ g (get_or ys v y)) → get_or (map f xs) v z ≡ get_or (map g ys) v z
seen xs ys f g z same v eq =
    elim (cases_lt v (length ys)) [
      | inl lt ↦
          let below : v < length xs = omega arith in
          let x = element xs v below in
          let y = element ys v lt in
          get_or-map f xs v x.0 z below ∙ eq lt x.0 y.0 ∙ sym (get_or-map g ys v y.0 z lt)
      | inr past ↦
          let a = length-map xs f in
          let b = length-map ys g in
          get_or_past (map f xs) v z (omega arith) ∙ sym (get_or_past (map g ys) v z (omega arith))
    ]

none_yet : {X : Type 0} (P : X → Type 0) → Any P [] → ⊥
none_yet P h = let lt = h.2 in absurd (omega arith)

module _ (moment : CivilTime) (demand : Bool) (W : Vouching) (xs ys : List Item) (js hs : List JudgedItem) (judged : AreJudged moment xs js) (anchored : AreJudged moment ys hs) (nodes : Nodes)
    (are : AreNodesFor W.Processes js nodes.items.items (length js)) (adds : Adds (length js) [] nodes.groups.items (IsSomeLink W.Vouches demand js hs) (IsSomeAnchor W.Vouches demand js hs)) where
  same_count : length nodes.items.items ≡ length xs
  same_count = are.count ∙ judged.count

  node_at : (v : ℕ) (n : Node) (x : Item) → v < length xs → IsNodeOf (W.Processes (get_or xs v x).octets) moment (get_or xs v x) (get_or nodes.items.items v n)
  node_at v n x lt =
      let count = judged.count in
      let below : v < length js = omega arith in
      let j = element js v below in
      are.each v j.0 n below moment (get_or xs v x) (judged.each v x j.0 lt)

  abbrev IsFitThere : Item → Type 0
  IsFitThere x = IsCertificateWith (IsFitIssuer (W.Processes x.octets) moment) x

  fit_iff : (v : ℕ) → IsAt nodes.items.items v (λ n. n.fit ≡ true) ↔ IsAt xs v IsFitThere
  fit_iff v = at_iff nodes.items.items xs (λ (n : Node). n.fit ≡ true) IsFitThere same_count v (λ n x lt. (node_at v n x lt).fit)

  -- whoever is fit is so if more is processed
  fit_anyhow : (v : ℕ) → IsAt xs v IsFitThere → IsAt xs v (IsCertificateWith (IsFitIssuer any_identifier moment))
  fit_anyhow v h = (h.0, λ d. let f = h.1 d in (f.0, f.1, fit_more (W.Processes (get_or xs v d).octets) any_identifier moment f.0 (λ id p. tt) f.2))

  pub built_agrees : Agrees (graph_of nodes) (graph_of_items (rules_at moment demand W) xs ys)
  unfolding Links LinksToAnchor
  built_agrees = record {
    items = same_count;
    certificate = λ v. at_iff nodes.items.items xs (λ (n : Node). n.certificate ≡ true) (IsCertificateWith (λ c. Unit {0})) same_count v (λ n x lt. (node_at v n x lt).certificate);
    usable = λ v. at_iff nodes.items.items xs (λ (n : Node). n.usable ≡ true) (λ (x : Item). IsCertificateWith (IsUsable (W.Processes x.octets) moment) x) same_count v (λ n x lt. (node_at v n x lt).usable);
    fit = fit_iff;
    self_issued = λ v. seen xs nodes.items.items (λ (x : Item). self_issued_of x.class) (λ (n : Node). n.self_issued) false (sym same_count) v (λ lt x n. let c = same_count in let below : v < length xs = omega arith in (node_at v n x below).self_issued);
    limit = λ v fit. seen xs nodes.items.items (λ (x : Item). limit_of x.class) (λ (n : Node). reach_of n.limit) No (sym same_count) v (λ lt x n. let c = same_count in let below : v < length xs = omega arith in (node_at v n x below).limit (fit.1 n));
    edge = λ v w fit. let e = edge_iff moment demand W xs ys js hs judged anchored v w (fit_anyhow w ((fit_iff w).0 fit)) in (
      λ h. elim ((adds.links v w).0 h) [ inl x ↦ absurd (none_yet (HasLink v w) x) | inr x ↦ e.0 x ],
      λ h. (adds.links v w).1 (inr (e.1 h)),
    );
    anchored = λ v a. let e = anchor_edge_iff moment demand W xs ys js hs judged anchored v a in (
      λ h. elim ((adds.anchored v a).0 h) [ inl x ↦ absurd (none_yet (HasAnchorLink v a) x) | inr x ↦ e.0 x ],
      λ h. (adds.anchored v a).1 (inr (e.1 h)),
    );
  }

-- positions in groups are those of nodes
pub all_within : (n m : ℕ) (groups : List Group) (P Q : ℕ → ℕ → Type 0) → n ≡ m → Adds n [] groups P Q → All (IsWithin m) groups
all_within n m groups P Q e a = subst (λ k. All (IsWithin k) groups) e (a.within (λ k d lt. absurd (omega arith)))

pub at_default : {X : Type 0} (xs : List X) (k : ℕ) (x d : X) → x ≡ get_or xs k x → k < length xs → x ≡ get_or xs k d
at_default xs k x d at lt = at ∙ get_or_default xs k x d lt

pub mapped_default : {X Y : Type 0} (f : X → Y) (xs : List X) (k : ℕ) (x : X) (d : Y) → x ≡ get_or xs k x → k < length xs → f x ≡ get_or (map f xs) k d
mapped_default f xs k x d at lt = ap f at ∙ sym (get_or-map f xs k x d lt)
