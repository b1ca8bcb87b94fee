-- The graph of nodes that are built of filled lists.
use Rattle.std.proofs.Common.{◌≡◌, ℕ, ◌<◌, Option, true, false, List, [], ◌∷◌, length, map, get_or, arith, ap, sym, ◌∙◌, subst, refl}
use Rattle.std.specs.Prelude.{◌↔◌, All, Contains}
use Rattle.std.proofs.lemmas.List.{get_or-map, length-map}
use Rattle.std.proofs.lemmas.List.Elements.{All-contains}
use Rattle.cert_graph.specs.declared.reach.Reach.TheVariants.{No}
use Rattle.cert_graph.specs.declared.nodes.Node.{Node}
use Rattle.cert_graph.specs.declared.nodes.Group.{Group}
use Rattle.cert_graph.specs.declared.nodes.Nodes.{Nodes}
use Rattle.cert_graph.specs.declared.entries.Entry.{Entry}
use Rattle.cert_graph.specs.Reach.{reach_of}
use Rattle.cert_graph.specs.Laws.{Agrees}
use Rattle.cert_graph.specs.Nodes.{IsNode, graph_of, Links, LinksToAnchor}
use Rattle.cert_graph.specs.Lists.{AreFilled}
use Rattle.cert_graph.specs.Entries.{IsAt, BelongsTo, LinkedTo, AnchorIn, graph_by}
use Rattle.cert_graph.proofs.PlacesOfNodes.{element_at}

-- a group's list is the list at its place
pub list_at : (f : Group → List ℕ) (groups : List Group) (lists : List (List ℕ)) (k : ℕ) (g : Group) → map f groups ≡ lists → k < length groups → get_or groups k g ≡ g → get_or lists k [] ≡ f g
list_at f groups lists k g e within is = ap (λ (xs : List (List ℕ)). get_or xs k []) (sym e) ∙ get_or-map f groups k g [] within ∙ ap f is

-- what a group's list has, at its place
pub has_in : (R : ℕ → ℕ → Type 0) (n b : ℕ) (f : Group → List ℕ) (groups : List Group) (lists : List (List ℕ)) (k : ℕ) (g : Group) → AreFilled R n b lists → map f groups ≡ lists
    → k < length groups → get_or groups k g ≡ g → (v : ℕ) → Contains (f g) v → (k < n) × (v < b) × R v k
has_in R n b f groups lists k g h e within is v c =
    let count : length lists ≡ n = h.count in
    let same : length lists ≡ length groups = ap length (sym e) ∙ length-map groups f in
    let inside : k < n = omega arith in
    let there : Contains (get_or lists k []) v = subst (λ (xs : List ℕ). Contains xs v) (sym (list_at f groups lists k g e within is)) c in
    let small : v < b = All-contains (λ u. u < b) (get_or lists k []) v (h.each k inside).within there in
    (inside, small, ((h.each k inside).exact v small).0 there)

pub is_in : (R : ℕ → ℕ → Type 0) (n b : ℕ) (f : Group → List ℕ) (groups : List Group) (lists : List (List ℕ)) (k : ℕ) (g : Group) → AreFilled R n b lists → map f groups ≡ lists
    → k < length groups → get_or groups k g ≡ g → (v : ℕ) → v < b → R v k → Contains (f g) v
is_in R n b f groups lists k g h e within is v small r =
    let count : length lists ≡ n = h.count in
    let same : length lists ≡ length groups = ap length (sym e) ∙ length-map groups f in
    let inside : k < n = omega arith in
    subst (λ (xs : List ℕ). Contains xs v) (list_at f groups lists k g e within is) (((h.each k inside).exact v small).1 r)

pub group_count : (R : ℕ → ℕ → Type 0) (n b : ℕ) (f : Group → List ℕ) (groups : List Group) (lists : List (List ℕ)) → AreFilled R n b lists → map f groups ≡ lists → length groups ≡ n
group_count R n b f groups lists h e = sym (length-map groups f) ∙ ap length e ∙ h.count

-- lists within the items
pub all_within : (R : ℕ → ℕ → Type 0) (n b c : ℕ) (f : Group → List ℕ) (groups : List Group) (lists : List (List ℕ)) → AreFilled R n b lists → map f groups ≡ lists → b ≡ c → All (λ g. All (λ v. v < c) (f g)) groups
all_within R n b c f groups lists h e same k d within =
    let count : length groups ≡ n = group_count R n b f groups lists h e in
    let inside : k < n = omega arith in
    let read : get_or lists k [] ≡ f (get_or groups k d) = ap (λ (xs : List (List ℕ)). get_or xs k []) (sym e) ∙ get_or-map f groups k d [] within in
    subst (λ (xs : List ℕ). All (λ v. v < c) xs) read (subst (λ (m : ℕ). All (λ v. v < m) (get_or lists k [])) same (h.each k inside).within)

-- what is judged of an entry is judged of its node
pub node_at : (nodes : Nodes) (entries : List Entry) (v : ℕ) (P : Node → Type 0) → nodes.items.items ≡ map (λ e. e.node) entries → IsNode nodes v P ↔ IsAt entries v (λ e. P e.node)
node_at nodes entries v P e =
    let same : length nodes.items.items ≡ length entries = ap length e ∙ length-map entries (λ (x : Entry). x.node) in (
      λ h. let within : v < length entries = (let x : v < length nodes.items.items = h.0 in omega arith) in
          (within, λ d. subst P (ap (λ (xs : List Node). get_or xs v d.node) e ∙ get_or-map (λ (x : Entry). x.node) entries v d d.node within) (h.1 d.node)),
      λ h. let within : v < length nodes.items.items = (let x : v < length entries = h.0 in omega arith) in
          let x = element_at entries v h.0 in
          (within, λ d. subst P (sym (ap (λ (xs : List Node). get_or xs v d) e ∙ get_or-map (λ (y : Entry). y.node) entries v x.0 d h.0)) (h.1 x.0)),
    )

map_of_map : {A B C : Type 0} (f : A → B) (g : B → C) (xs : List A) → map g (map f xs) ≡ map (λ x. g (f x)) xs
map_of_map f g [] = refl
map_of_map f g (x ∷ xs) = ap (λ ys. g (f x) ∷ ys) (map_of_map f g xs)

field_at : {X : Type 0} (f : Node → X) (d : X) (nodes : Nodes) (entries : List Entry) (v : ℕ) → nodes.items.items ≡ map (λ e. e.node) entries → get_or (map (λ e. f e.node) entries) v d ≡ get_or (map f nodes.items.items) v d
field_at f d nodes entries v e = sym (ap (λ (xs : List Node). get_or (map f xs) v d) e ∙ ap (λ xs. get_or xs v d) (map_of_map (λ (x : Entry). x.node) f entries))

pub built_links : (nodes : Nodes) (entries : List Entry) (anchors : List (Option ℕ)) (n : ℕ) (of_members of_issued : List (List ℕ))
    → AreFilled (BelongsTo entries) n (length entries) of_members → AreFilled (LinkedTo entries) n (length entries) of_issued
    → map (λ g. g.members.items) nodes.groups.items ≡ of_members → map (λ g. g.issued.items) nodes.groups.items ≡ of_issued
    → (v w : ℕ) → (graph_of nodes).Edge v w ↔ (graph_by entries anchors n).Edge v w
unfolding Links
built_links nodes entries anchors n of_members of_issued hm hi em ei v w =
    let groups = nodes.groups.items in
    let count : length groups ≡ n = group_count (BelongsTo entries) n (length entries) (λ (g : Group). g.members.items) groups of_members hm em in (
      λ l. let i = has_in (LinkedTo entries) n (length entries) (λ (g : Group). g.issued.items) groups of_issued l.0 l.1 hi ei l.2 l.3 v l.4.issued in
          let m = has_in (BelongsTo entries) n (length entries) (λ (g : Group). g.members.items) groups of_members l.0 l.1 hm em l.2 l.3 w l.4.member in
          (l.0, i.0, i.2, m.2),
      λ x. let within : x.0 < length groups = subst (λ (m : ℕ). x.0 < m) (sym count) x.1 in
          let g = element_at groups x.0 within in (
            x.0,
            g.0,
            within,
            g.1,
            record {
              issued = is_in (LinkedTo entries) n (length entries) (λ (y : Group). y.issued.items) groups of_issued x.0 g.0 hi ei within g.1 v x.2.0 x.2;
              member = is_in (BelongsTo entries) n (length entries) (λ (y : Group). y.members.items) groups of_members x.0 g.0 hm em within g.1 w x.3.0 x.3;
            },
          ),
    )

pub built_agrees : (nodes : Nodes) (entries : List Entry) (anchors : List (Option ℕ)) (n : ℕ) (of_members of_anchors of_issued : List (List ℕ)) → nodes.items.items ≡ map (λ e. e.node) entries
    → AreFilled (BelongsTo entries) n (length entries) of_members → AreFilled (AnchorIn anchors) n (length anchors) of_anchors → AreFilled (LinkedTo entries) n (length entries) of_issued
    → map (λ g. g.members.items) nodes.groups.items ≡ of_members → map (λ g. g.anchors.items) nodes.groups.items ≡ of_anchors → map (λ g. g.issued.items) nodes.groups.items ≡ of_issued
    → Agrees (graph_of nodes) (graph_by entries anchors n)
unfolding LinksToAnchor
built_agrees nodes entries anchors n of_members of_anchors of_issued e hm ha hi em ea ei =
    let groups = nodes.groups.items in
    let count : length groups ≡ n = group_count (BelongsTo entries) n (length entries) (λ (g : Group). g.members.items) groups of_members hm em in
    record {
      items = ap length e ∙ length-map entries (λ (x : Entry). x.node);
      certificate = λ v. node_at nodes entries v (λ x. x.certificate ≡ true) e;
      usable = λ v. node_at nodes entries v (λ x. x.usable ≡ true) e;
      fit = λ v. node_at nodes entries v (λ x. x.fit ≡ true) e;
      self_issued = λ v. field_at (λ (x : Node). x.self_issued) false nodes entries v e;
      limit = λ v fit. field_at (λ (x : Node). reach_of x.limit) No nodes entries v e;
      edge = λ v w fit. built_links nodes entries anchors n of_members of_issued hm hi em ei v w;
      anchored = λ v a. (
        λ l. let i = has_in (LinkedTo entries) n (length entries) (λ (g : Group). g.issued.items) groups of_issued l.0 l.1 hi ei l.2 l.3 v l.4.issued in
            let m = has_in (AnchorIn anchors) n (length anchors) (λ (g : Group). g.anchors.items) groups of_anchors l.0 l.1 ha ea l.2 l.3 a l.4.anchor in
            (l.0, i.0, i.2, m.2),
        λ x. let within : x.0 < length groups = subst (λ (m : ℕ). x.0 < m) (sym count) x.1 in
            let g = element_at groups x.0 within in (
              x.0,
              g.0,
              within,
              g.1,
              record {
                issued = is_in (LinkedTo entries) n (length entries) (λ (y : Group). y.issued.items) groups of_issued x.0 g.0 hi ei within g.1 v x.2.0 x.2;
                anchor = is_in (AnchorIn anchors) n (length anchors) (λ (y : Group). y.anchors.items) groups of_anchors x.0 g.0 ha ea within g.1 a x.3.0 x.3;
              },
            ),
      );
    }
