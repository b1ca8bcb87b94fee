-- Laws of paths, at the graphs of nodes.
use Rattle.std.proofs.Common.{◌≡◌, ℕ, ◌<◌, ◌≤◌, true, false, List, [], ◌∷◌, ◌++◌, refl, length, map, get_or, arith, ap, sym, ◌∙◌, subst, inl, inr, length-append}
use Rattle.std.proofs.lemmas.Bool.{cases_lt}
use Rattle.std.proofs.lemmas.List.{get_or_append_left, length-map}
use Rattle.cert_graph.specs.declared.reach.Reach.{Reach}
use Rattle.cert_graph.specs.declared.reach.Reach.TheVariants.{No}
use Rattle.cert_graph.specs.declared.nodes.Node.{Node}
use Rattle.cert_graph.specs.declared.nodes.Nodes.{Nodes}
use Rattle.cert_graph.specs.Reach.{Takes, reach_of}
use Rattle.cert_graph.specs.Graph.{IsValidPath, IsFirstPath}
use Rattle.cert_graph.specs.Laws.{Carries}
use Rattle.cert_graph.specs.Nodes.{IsNode, graph_of}
use Rattle.cert_graph.specs.LawsOfNodes.{LeadsAsWell, HasFurther}
use Rattle.cert_graph.proofs.PathLaws.{path_carried, map_same}
use Rattle.cert_graph.proofs.NodeFacts.{fit_is_usable}

pub paths_carried : (f : ℕ → ℕ) (nodes other : Nodes) → Carries f (graph_of nodes) (graph_of other) → (target : ℕ) (ps : List ℕ) (a : ℕ)
    → IsValidPath (graph_of nodes) target ps a → IsValidPath (graph_of other) (f target) (map f ps) a
paths_carried f nodes other k target ps a v = path_carried f (graph_of nodes) (graph_of other) k (fit_is_usable other) target ps a v

-- a first path is no longer than any valid one
pub first_least : (nodes : Nodes) (target : ℕ) (ps qs : List ℕ) (a b : ℕ) → IsFirstPath (graph_of nodes) target qs b → IsValidPath (graph_of nodes) target ps a → length qs ≤ length ps
first_least nodes target ps qs a b h v = elim (cases_lt (length ps) (length qs)) [ inl short ↦ absurd (h.first ps a v (inl short)) | inr long ↦ long ]

pub carried_well : (f : ℕ → ℕ) (nodes other : Nodes) → Carries f (graph_of nodes) (graph_of other) → (target : ℕ) → LeadsAsWell nodes other target (f target)
carried_well f nodes other k target = record {
  none = λ h ps a v. h (map f ps) a (paths_carried f nodes other k target ps a v);
  least = λ ps qs a b h j.
      let bound = first_least other (f target) (map f ps) qs a b j (paths_carried f nodes other k target ps a h.valid) in
      let same = length-map ps f in omega arith;
}

-- what stood before stays
node_kept : (nodes further : Nodes) (more : List Node) (v : ℕ) (P : Node → Type 0) → further.items.items ≡ nodes.items.items ++ more → IsNode nodes v P → IsNode further v P
node_kept nodes further more v P e h =
    let within : v < length nodes.items.items = h.0 in
    let l = ap length e ∙ length-append nodes.items.items more in
    (omega arith, λ d. subst P (sym (ap (λ (xs : List Node). get_or xs v d) e ∙ get_or_append_left nodes.items.items more d v within)) (h.1 d))

mapped_append : {A B : Type 0} (f : A → B) (xs ys : List A) → map f (xs ++ ys) ≡ map f xs ++ map f ys
mapped_append f [] ys = refl
mapped_append f (x ∷ xs) ys = ap (λ zs. f x ∷ zs) (mapped_append f xs ys)

field_kept : {X : Type 0} (f : Node → X) (d : X) (nodes further : Nodes) (more : List Node) (v : ℕ) → further.items.items ≡ nodes.items.items ++ more → v < length nodes.items.items
    → get_or (map f further.items.items) v d ≡ get_or (map f nodes.items.items) v d
field_kept f d nodes further more v e within =
    ap (λ (xs : List Node). get_or (map f xs) v d) e ∙ ap (λ xs. get_or xs v d) (mapped_append f nodes.items.items more)
    ∙ get_or_append_left (map f nodes.items.items) (map f more) d v (subst (λ (n : ℕ). v < n) (sym (length-map nodes.items.items f)) within)

pub further_carries : (nodes further : Nodes) → HasFurther nodes further → Carries (λ v. v) (graph_of nodes) (graph_of further)
further_carries nodes further h = record {
  usable = λ v x. node_kept nodes further h.more v (λ n. n.usable ≡ true) h.items x;
  fit = λ v x. node_kept nodes further h.more v (λ n. n.fit ≡ true) h.items x;
  self_issued = λ v x. field_kept (λ (n : Node). n.self_issued) false nodes further h.more v h.items x.0;
  limit = λ v c x t. subst (λ (r : Reach). Takes r c) (sym (field_kept (λ (n : Node). reach_of n.limit) No nodes further h.more v h.items x.0)) t;
  edge = h.links;
  anchored = h.anchored;
}

pub further_paths : (nodes further : Nodes) → HasFurther nodes further → (target : ℕ) (ps : List ℕ) (a : ℕ) → IsValidPath (graph_of nodes) target ps a → IsValidPath (graph_of further) target ps a
further_paths nodes further h target ps a v =
    subst (λ (qs : List ℕ). IsValidPath (graph_of further) target qs a) (map_same ps) (paths_carried (λ v. v) nodes further (further_carries nodes further h) target ps a v)
