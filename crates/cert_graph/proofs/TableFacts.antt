-- What is tested of a table and of a path with it.
use Rattle.std.proofs.Common.{◌≡◌, ℕ, ◌+◌, ◌-◌, ◌<◌, ◌≤◌, Bool, true, false, not, List, [], ◌∷◌, ◌++◌, length, map, take, drop, get_or, Vec, Global, arith, ap, sym, ◌∙◌, subst, refl, inl, inr, zero-add, length-append}
use Rattle.std.specs.Prelude.{◌↔◌, All}
use Rattle.std.specs.Prelude.{Any}
use Rattle.std.proofs.lemmas.Bool.{false≢true, cases_lt}
use Rattle.std.proofs.lemmas.List.{get_or-map, length-map, get_or_push, take_more, take_all}
use Rattle.std.proofs.lemmas.List.Elements.{All-map}
use Rattle.cert_graph.specs.declared.reach.Reach.{Reach}
use Rattle.cert_graph.specs.declared.nodes.Nodes.{Nodes}
use Rattle.cert_graph.specs.Reach.{Takes}
use Rattle.cert_graph.specs.Graph.{Graph, counted, EndsIn, IsValidPath}
use Rattle.cert_graph.specs.Adequate.{at_row, row_of, issuers_of, HasAnchored, IsSuccessor, IsAdequatePath, IsAdequateNone}
use Rattle.cert_graph.specs.Nodes.{LinksToAnchor, graph_of}
use Rattle.cert_graph.specs.Groups.{HoldsEachLimit, FollowsRow, HasOpenBelow}
use Rattle.cert_graph.specs.Steps.{Lowest}
use Rattle.cert_graph.specs.Tables.{FollowOn, IsTable, IsShut, IsShortest, IsClosed}
use Rattle.cert_graph.proofs.ReachFacts.{no_takes, none_taken}
use Rattle.cert_graph.proofs.GroupFacts.{anchored_iff, successor_iff, open_below}
use Rattle.cert_graph.proofs.Checks.{lowest_to_clause, lowest_from_clause}

-- a test that returns false, or true, of what is not so, or so
pub refuted : {P : Type 0} → (P → ⊥) → (false ≡ true) ↔ P
refuted h = (λ e. absurd (false≢true e), λ p. absurd (h p))

pub granted : {P : Type 0} → P → (true ≡ true) ↔ P
granted p = (λ e. p, λ q. refl)

-- what holds of each element's image holds of each image
pub all_images : {X Y : Type 0} (P : X → Type 0) (f : Y → X) (ys : List Y) → All (λ y. P (f y)) ys ↔ All P (map f ys)
all_images P f ys = (
  λ h. All-map P f ys h,
  λ h i d within. subst P (get_or-map f ys i d (f d) within) (h i (f d) (subst (λ (n : ℕ). i < n) (sym (length-map ys f)) within)),
)

-- a table's parts
pub table_iff : (nodes : Nodes) (rows : List (List Reach)) → All (λ row. length row ≡ length nodes.items.items) rows → All (HoldsEachLimit nodes) rows
    → {P : Type 0} → (P ↔ FollowOn nodes rows (length rows)) → P ↔ IsTable (graph_of nodes) rows
table_iff nodes rows whole anchored k = (
  λ p. record {
    whole = whole;
    anchored = λ i d lt. (anchored_iff nodes (get_or rows i d)).0 (anchored i d lt);
    successors = λ i lt. (successor_iff nodes (row_of rows i) (row_of rows (i + 1))).0 (k.0 p i lt);
  },
  λ t. k.1 (λ i lt. (successor_iff nodes (row_of rows i) (row_of rows (i + 1))).1 (t.successors i lt)),
)

pub limits_of_table : (nodes : Nodes) (rows : List (List Reach)) → IsTable (graph_of nodes) rows → All (HoldsEachLimit nodes) rows
limits_of_table nodes rows t i d lt = (anchored_iff nodes (get_or rows i d)).1 (t.anchored i d lt)

-- no issuer that a row reaches
pub shut_iff : (nodes : Nodes) (row : List Reach) (v : ℕ) (r : Bool) → ((r ≡ true) ↔ Any (HasOpenBelow nodes row v 0 (length nodes.items.items)) nodes.groups.items)
    → (not r ≡ true) ↔ IsShut (graph_of nodes) row v
unfolding IsShut
shut_iff nodes row v true k =
    let x = (open_below nodes row v 0 (length nodes.items.items)).0 (k.0 refl) in
    refuted (λ h. none_taken (at_row row x.0) 0 (h x.0 x.2.0 x.2.1) x.2.2)
shut_iff nodes row v false k = granted (λ w fit e. no_takes (at_row row w) (λ t. false≢true (k.1 ((open_below nodes row v 0 (length nodes.items.items)).1 (w, fit.0, (fit, e, t))))))

-- no anchor, if the test finds none
pub no_anchor : (nodes : Nodes) (v : ℕ) (r : Bool) → ((r ≡ true) ↔ ((a : ℕ) × LinksToAnchor nodes v a)) → r ≡ false → (b : ℕ) → (graph_of nodes).AnchorEdge v b → ⊥
no_anchor nodes v r k e b edge = false≢true (sym e ∙ k.1 (b, edge))

pub some_anchor : (nodes : Nodes) (v : ℕ) (r : Bool) → ((r ≡ true) ↔ ((a : ℕ) × LinksToAnchor nodes v a)) → r ≡ true → ((b : ℕ) → (graph_of nodes).AnchorEdge v b → ⊥) → ⊥
some_anchor nodes v r k e none = let x = k.0 e in none x.0 x.1

pub shortest_iff : (g : Graph) (target : ℕ) (rows : List (List Reach)) (row : List Reach) (k : ℕ) → ((b : ℕ) → g.AnchorEdge target b → ⊥) → k + 2 ≡ length rows → row ≡ row_of rows k
    → {P : Type 0} → (P ↔ IsShut g row target) → P ↔ IsShortest g target rows
shortest_iff g target rows row k alone last is_row h = (
  λ p. record {
    not_alone = λ some. alone;
    not_shorter = λ j e. let same : k ≡ j = omega arith in
        subst (λ (i : ℕ). IsShut g (row_of rows i) target) same (subst (λ (r : List Reach). IsShut g r target) is_row (h.0 p));
  },
  λ s. h.1 (subst (λ (r : List Reach). IsShut g r target) (sym is_row) (s.not_shorter k last)),
)

-- the last of a list
pub ends_iff : (P : ℕ → Type 0) (ps : List ℕ) (n : ℕ) → length ps ≡ n + 1 → P (get_or ps n 0) ↔ EndsIn P ps
ends_iff P ps n e = (
  λ p front v s.
      let l = ap length s ∙ length-append front (v ∷ []) in
      let at : length front ≡ n = omega arith in
      subst P (ap (λ (xs : List ℕ). get_or xs n 0) s ∙ get_or_push front v 0 n at) p,
  λ h. let within : n < length ps = omega arith in
      let short : length ps ≤ n + 1 = omega arith in
      h (take n ps) (get_or ps n 0) (sym (take_all (n + 1) ps short) ∙ take_more ps n 0 within),
)

-- an adequate path's parts
pub shortest_of : (g : Graph) (target : ℕ) (ps : List ℕ) (a : ℕ) (rows : List (List Reach)) → IsAdequatePath g target ps a rows → IsShortest g target rows
unfolding IsShut
shortest_of g target ps a rows h =
    let count : length rows + 1 ≡ length ps = h.count in record {
      not_alone = λ some. let two : 2 ≤ length ps = omega arith in h.not_alone two;
      not_shorter = λ k e w fit edge. let last : k + 3 ≡ length ps = omega arith in h.not_shorter k w last fit edge;
    }

pub path_iff : (g : Graph) (target : ℕ) (ps rest : List ℕ) (a : ℕ) (rows : List (List Reach)) → length rows + 1 ≡ length ps → rest ≡ drop 1 ps → IsValidPath g target ps a → IsTable g rows
    → EndsIn (λ v. (b : ℕ) → b < a → g.AnchorEdge v b → ⊥) ps → IsShortest g target rows → {P : Type 0} → (P ↔ Lowest g rows target 0 rest) → P ↔ IsAdequatePath g target ps a rows
unfolding IsShut
path_iff g target ps rest a rows count is_rest v t least s k =
    let e : ps ≡ target ∷ v.issuers = v.starts in
    let same : rest ≡ v.issuers = is_rest ∙ ap (λ (xs : List ℕ). drop 1 xs) e in (
      λ p. record {
        valid = v;
        count = count;
        whole = t.whole;
        anchored = t.anchored;
        successors = t.successors;
        least_anchor = least;
        not_alone = λ two. let some : 0 < length rows = omega arith in s.not_alone some;
        not_shorter = λ i w last fit edge. let two : i + 2 ≡ length rows = omega arith in s.not_shorter i two w fit edge;
        not_smaller = λ front back x q w split lt fit edge takes.
            lowest_to_clause g rows target 0 v.issuers (subst (λ (zs : List ℕ). Lowest g rows target 0 zs) same (k.0 p)) front back x q w (sym e ∙ split) lt fit edge
            (subst (λ (n : ℕ). Takes (at_row (row_of rows (length back)) w) n) (sym (zero-add (counted g (issuers_of (front ++ x ∷ []))))) takes);
      },
      λ h. k.1 (subst (λ (zs : List ℕ). Lowest g rows target 0 zs) (sym same)
          (lowest_from_clause g rows target 0 v.issuers (λ front back x q w split lt fit edge takes.
          h.not_smaller front back x q w (e ∙ split) lt fit edge (subst (λ (n : ℕ). Takes (at_row (row_of rows (length back)) w) n) (zero-add (counted g (issuers_of (front ++ x ∷ [])))) takes)))),
    )

-- an adequate none's parts
pub none_iff : (nodes : Nodes) (target : ℕ) (rows : List (List Reach)) (row : List Reach) → (graph_of nodes).IsCertificate target → rows ≡ row ∷ [] → length row ≡ length nodes.items.items
    → HasAnchored (graph_of nodes) row → IsSuccessor (graph_of nodes) row row → {P : Type 0} → (P ↔ IsClosed (graph_of nodes) row target) → P ↔ IsAdequateNone (graph_of nodes) target rows
unfolding IsClosed IsShut
none_iff nodes target rows row cert one whole anchored fixed k = (
  λ p. record {
    certificate = cert;
    row = row;
    one = one;
    whole = whole;
    anchored = anchored;
    fixed = fixed;
    closed = k.0 p;
  },
  λ h. let same : h.row ≡ row = (let e : h.row ∷ [] ≡ row ∷ [] = sym h.one ∙ one in cc e) in
      k.1 (subst (λ (r : List Reach). IsClosed (graph_of nodes) r target) same h.closed),
)

-- the row of an adequate none, as the code reads it
pub row_of_none : (g : Graph) (target : ℕ) (rows : List (List Reach)) (row : List Reach) → rows ≡ row ∷ [] → (h : IsAdequateNone g target rows) → h.row ≡ row
row_of_none g target rows row one h = let e : h.row ∷ [] ≡ row ∷ [] = sym h.one ∙ one in cc e

-- one row more that follows the one before it
pub follows_refused : (nodes : Nodes) (rows : List (List Reach)) (number n : ℕ) (r s : List Reach) → 1 ≤ n → n < number → r ≡ row_of rows (n - 1) → s ≡ row_of rows n
    → (FollowsRow nodes r s → ⊥) → FollowOn nodes rows number → ⊥
follows_refused nodes rows number n r s some within is_r is_s no_step h =
    let same : n - 1 + 1 ≡ n = omega arith in
    let here : n - 1 + 1 < number = omega arith in
    no_step (subst (λ (x : List Reach). FollowsRow nodes x s) (sym is_r)
    (subst (λ (x : List Reach). FollowsRow nodes (row_of rows (n - 1)) x) (sym is_s)
    (subst (λ (j : ℕ). FollowsRow nodes (row_of rows (n - 1)) (row_of rows j)) same (h (n - 1) here))))

pub follows_more : (nodes : Nodes) (rows : List (List Reach)) (n : ℕ) (r s : List Reach) → 1 ≤ n → r ≡ row_of rows (n - 1) → s ≡ row_of rows n
    → FollowsRow nodes r s → FollowOn nodes rows n → FollowOn nodes rows (n + 1)
follows_more nodes rows n r s some is_r is_s step h k lt = elim (cases_lt (k + 1) n) [
  | inl below ↦ h k below
  | inr above ↦
      let before : n - 1 ≡ k = omega arith in
      let same : n ≡ k + 1 = omega arith in
      subst (λ (j : ℕ). FollowsRow nodes (row_of rows k) (row_of rows j)) same
      (subst (λ (j : ℕ). FollowsRow nodes (row_of rows j) (row_of rows n)) before
      (subst (λ (x : List Reach). FollowsRow nodes x (row_of rows n)) is_r (subst (λ (x : List Reach). FollowsRow nodes r x) is_s step)))
]

-- a table of one row
pub one_row : (vectors : List (Vec Reach Global)) (r : Vec Reach Global) → length vectors ≡ 1 → r ≡ get_or vectors 0 r → map (λ s. s.items) vectors ≡ r.items ∷ []
one_row [] r one is = absurd (omega arith)
one_row (x ∷ []) r one is = ap (λ (s : Vec Reach Global). s.items ∷ []) (sym is)
one_row (x ∷ y ∷ xs) r one is = absurd (omega arith)
