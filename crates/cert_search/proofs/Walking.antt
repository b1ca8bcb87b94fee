-- The walk that takes the least position each time gives the first path.
use Rattle.std.proofs.Common.{◌≡◌, ℕ, zero, suc, ◌+◌, ◌-◌, ◌≤◌, ◌<◌, not, cond, List, [], ◌∷◌, ◌++◌, length, map, get_or, None, Vec, Global, arith, zero-add, add-zero, ap, sym, ◌∙◌, subst, refl, inl, inr, length-append, append_assoc, append-nil}
use Rattle.std.proofs.lemmas.List.{get_or_default, get_or-map}
use Rattle.std.proofs.lemmas.List.Sums.{sum_by_push}
use Rattle.cert_graph.specs.declared.reach.Reach.{Reach}
use Rattle.cert_graph.specs.Reach.{Takes}
use Rattle.cert_graph.specs.Graph.{Graph, counted, IsValidPath}
use Rattle.cert_graph.specs.Adequate.{at_row, row_of, issuers_of, IsAdequatePath, HasAnchored}
use Rattle.cert_graph.specs.Laws.{FitIsUsable}
use Rattle.cert_graph.specs.Steps.{one_of, Tail, FromTarget, Next, MayTake}
use Rattle.cert_graph.proofs.ReachFacts.{no_takes}
use Rattle.cert_graph.proofs.Tails.{count_moved, tail_fit, tail_takes, chain_of_tail, tail_from_chain}
use Rattle.cert_graph.proofs.PathLaws.{valid_from, no_one, no_two}
use Rattle.cert_graph.proofs.Checks.{count_split}
use Rattle.cert_graph.specs.Least.{IsLeast, IsLeastOption}
use Rattle.cert_search.specs.Rows.{IsRun, Opens}
use Rattle.cert_search.proofs.Exactness.{exact_anchored, exact_successor}

-- each step takes the least position, down the rows to that of k
abbrev pub WalksTo : Graph → List (List Reach) → ℕ → ℕ → ℕ → List ℕ → Type 0
WalksTo g rows k v c [] = Unit {0}
WalksTo g rows k v c (w ∷ ps) = IsLeast (MayTake g (row_of rows (length ps + k)) v c) w × WalksTo g rows k w (c + one_of g w) ps

-- the walk may go on: to an anchor if no row is left, else to an issuer that the next row reaches
abbrev pub Leads : Graph → List (List Reach) → ℕ → ℕ → ℕ → Type 0
Leads g rows zero v c = (a : ℕ) × g.AnchorEdge v a
Leads g rows (suc k) v c = (w : ℕ) × MayTake g (row_of rows k) v c w

-- A walk so far, with k rows left.
pub record Part (g : Graph) (target : ℕ) (rows : List (List Reach)) (k : ℕ) (ps : List ℕ) (last count : ℕ) : Type 0 where
  pub walks : WalksTo g rows k target 0 ps
  pub long : length ps + k ≡ length rows
  pub front : List ℕ
  pub ends : target ∷ ps ≡ front ++ last ∷ []
  pub counts : count ≡ counted g ps
  pub completes : (rest : List ℕ) (a : ℕ) → Next g last count rest a → FromTarget g target (ps ++ rest) a
  pub leads : Leads g rows k last count

start_completes : (g : Graph) (target : ℕ) (rest : List ℕ) (a : ℕ) → g.Usable target → Next g target 0 rest a → FromTarget g target rest a
start_completes g target [] a usable n = (usable, n)
start_completes g target (w ∷ ps) a usable n = (usable, n.0, n.1)

pub part_start : (g : Graph) (target : ℕ) (rows : List (List Reach)) (k : ℕ) → g.Usable target → suc k ≡ length rows → (w : ℕ) → MayTake g (row_of rows k) target 0 w → Part g target rows (suc k) [] target 0
part_start g target rows k usable e w m = record {
  walks = tt;
  long = omega arith;
  front = [];
  ends = refl;
  counts = refl;
  completes = λ rest a n. start_completes g target rest a usable n;
  leads = (w, m);
}

walks_push : (g : Graph) (rows : List (List Reach)) (k v c : ℕ) (ps : List ℕ) (w : ℕ) (front : List ℕ) (last count : ℕ) → v ∷ ps ≡ front ++ last ∷ [] → count ≡ c + counted g ps
    → WalksTo g rows (suc k) v c ps → IsLeast (MayTake g (row_of rows k) last count) w → WalksTo g rows k v c (ps ++ w ∷ [])
walks_push g rows k v c [] w [] last count e n t least =
    let same : v ≡ last = cc e in
    let size : c ≡ count = sym (n ∙ add-zero c) in
    let zero_k : k ≡ 0 + k = sym (zero-add k) in (
      subst (λ (i : ℕ). IsLeast (MayTake g (row_of rows i) v c) w) zero_k
          (subst (λ (u : ℕ). IsLeast (MayTake g (row_of rows k) u c) w) (sym same)
          (subst (λ (d : ℕ). IsLeast (MayTake g (row_of rows k) last d) w) (sym size) least)),
      tt,
    )
walks_push g rows k v c [] w (u ∷ []) last count e n t least = absurd (cc e)
walks_push g rows k v c [] w (u ∷ x ∷ front) last count e n t least = absurd (cc e)
walks_push g rows k v c (p ∷ ps) w [] last count e n t least = absurd (cc e)
walks_push g rows k v c (p ∷ ps) w (u ∷ front) last count e n t least =
    let rest : p ∷ ps ≡ front ++ last ∷ [] = cc e in
    let l = length-append ps (w ∷ []) in
    let index : length ps + suc k ≡ length (ps ++ w ∷ []) + k = omega arith in (
      subst (λ (i : ℕ). IsLeast (MayTake g (row_of rows i) v c) p) index t.0,
      walks_push g rows k p (c + one_of g p) ps w front last count rest (n ∙ count_moved g c p ps) t.1 least,
    )

-- a chain from the target that a row before the last would see
too_short : (g : Graph) (target : ℕ) (rows : List (List Reach)) → IsRun g target rows → (issuers : List ℕ) (a : ℕ) → 0 < length issuers → length issuers < length rows → FromTarget g target issuers a → ⊥
too_short g target rows run [] a some short t = omega arith
too_short g target rows run (w ∷ ps) a some short t =
    let k : (n : ℕ) × (n + 2 ≡ length rows) = (length rows - 2, omega arith) in
    let within : k.0 < length rows = omega arith in
    let early : k.0 + 1 < length rows = omega arith in
    let fits : length (w ∷ ps) ≤ k.0 + 1 = omega arith in
    run.closed k.0 early (t.0, inr (w, tail_fit g 0 w ps a t.2, t.1, (run.exact k.0 within w 0).1 (ps, a, fits, chain_of_tail g 0 w ps a t.2)))

counted_push : (g : Graph) (ps : List ℕ) (w : ℕ) → counted g (ps ++ w ∷ []) ≡ counted g ps + one_of g w
counted_push g ps w = sum_by_push (λ p. cond (not (g.self_issued p)) 1 0) ps w

same_last : (front other : List ℕ) (v u : ℕ) → front ++ v ∷ [] ≡ other ++ u ∷ [] → v ≡ u
same_last [] [] v u e = cc e
same_last [] (x ∷ other) v u e = let rest : [] ≡ other ++ u ∷ [] = cc e in absurd (no_one u other [] rest)
same_last (x ∷ front) [] v u e = let rest : [] ≡ front ++ v ∷ [] = sym (let h : front ++ v ∷ [] ≡ [] = cc e in h) in absurd (no_one v front [] rest)
same_last (x ∷ front) (y ∷ other) v u e = let rest : front ++ v ∷ [] ≡ other ++ u ∷ [] = cc e in same_last front other v u rest

usable_from : (g : Graph) (target : ℕ) (ps : List ℕ) (a : ℕ) → FromTarget g target (ps ++ []) a → g.Usable target
usable_from g target [] a t = t.0
usable_from g target (w ∷ ps) a t = t.0

pub tail_next : (g : Graph) (c w : ℕ) (rest : List ℕ) (a : ℕ) → g.Fit w → Takes (g.limit w) c → Next g w (c + one_of g w) rest a → Tail g c w rest a
tail_next g c w [] a fit t n = (fit, t, n)
tail_next g c w (u ∷ rest) a fit t n = (fit, t, n.0, n.1)

leads_on : (g : Graph) (target : ℕ) (rows : List (List Reach)) → IsRun g target rows → (k : ℕ) (ps : List ℕ) (w c : ℕ) (rest : List ℕ) (a : ℕ)
    → length ps + suc k ≡ length rows → length (w ∷ rest) ≤ k + 1 → Tail g c w rest a → ((b : ℕ) → g.AnchorEdge w b → FromTarget g target (ps ++ w ∷ []) b) → Leads g rows k w (c + one_of g w)
leads_on g target rows run zero ps w c [] a long short t done = (a, t.2)
leads_on g target rows run zero ps w c (u ∷ rest) a long short t done = absurd (omega arith)
leads_on g target rows run (suc k) ps w c [] a long short t done =
    let l = length-append ps (w ∷ []) in
    let some : 0 < length (ps ++ w ∷ []) = omega arith in
    let less : length (ps ++ w ∷ []) < length rows = omega arith in
    absurd (too_short g target rows run (ps ++ w ∷ []) a some less (done a t.2))
leads_on g target rows run (suc k) ps w c (u ∷ rest) a long short t done =
    let within : k < length rows = omega arith in
    let fits : length (u ∷ rest) ≤ k + 1 = omega arith in
    (u, (tail_fit g (c + one_of g w) u rest a t.3, t.2, (run.exact k within u (c + one_of g w)).1 (rest, a, fits, chain_of_tail g (c + one_of g w) u rest a t.3)))

pub part_step : (g : Graph) (target : ℕ) (rows : List (List Reach)) → IsRun g target rows → (k : ℕ) (ps : List ℕ) (last count w : ℕ)
    → Part g target rows (suc k) ps last count → IsLeast (MayTake g (row_of rows k) last count) w → Part g target rows k (ps ++ w ∷ []) w (count + one_of g w)
part_step g target rows run k ps last count w h least =
    let long : length ps + suc k ≡ length rows = h.long in
    let within : k < length rows = omega arith in
    let x = (run.exact k within w count).0 least.0.2 in
    let tail : Tail g count w x.0 x.1 = tail_from_chain g count w x.0 x.1 x.3 in
    let l = length-append ps (w ∷ []) in
    let passed : Takes (g.limit w) count = tail_takes g count w x.0 x.1 tail in record {
      walks = walks_push g rows k target 0 ps w h.front last count h.ends (h.counts ∙ sym (zero-add (counted g ps))) h.walks least;
      long = omega arith;
      front = target ∷ ps;
      ends = refl;
      counts = ap (λ n. n + one_of g w) h.counts ∙ sym (counted_push g ps w);
      completes = λ rest a n. subst (λ (zs : List ℕ). FromTarget g target zs a) (sym (append_assoc ps (w ∷ []) rest))
          (h.completes (w ∷ rest) a (least.0.1, tail_next g count w rest a least.0.0 passed n));
      leads = leads_on g target rows run k ps w count x.0 x.1 long x.2 tail
          (λ b e. h.completes (w ∷ []) b (least.0.1, (least.0.0, passed, e)));
    }

-- a walk took the least position at each place
walks_least : (g : Graph) (rows : List (List Reach)) (v0 c0 : ℕ) (ps : List ℕ) → WalksTo g rows 0 v0 c0 ps
    → (front back : List ℕ) (v p w : ℕ) → v0 ∷ ps ≡ front ++ v ∷ p ∷ back → w < p → g.Fit w → g.Edge v w → Takes (at_row (row_of rows (length back)) w) (c0 + counted g (issuers_of (front ++ v ∷ []))) → ⊥
walks_least g rows v0 c0 [] t front back v p w e lt fit edge takes = no_two v0 v p front back e
walks_least g rows v0 c0 (q ∷ ps) t [] back v p w e lt fit edge takes =
    let sv : v ≡ v0 = cc e in
    let sp : p ≡ q = cc e in
    let sb : length back ≡ length ps + 0 = let eb : back ≡ ps = cc e in ap length eb ∙ sym (add-zero (length ps)) in
    let lower : w < q = omega arith in
    t.0.1 w lower (fit, subst (λ (u : ℕ). g.Edge u w) sv edge, subst (λ (n : ℕ). Takes (at_row (row_of rows (length ps + 0)) w) n) (add-zero c0) (subst (λ (i : ℕ). Takes (at_row (row_of rows i) w) (c0 + 0)) sb takes))
walks_least g rows v0 c0 (q ∷ ps) t (u ∷ front) back v p w e lt fit edge takes =
    let rest : q ∷ ps ≡ front ++ v ∷ p ∷ back = cc e in
    walks_least g rows q (c0 + one_of g q) ps t.1 front back v p w rest lt fit edge
    (subst (λ (n : ℕ). Takes (at_row (row_of rows (length back)) w) n) (count_split g c0 q ps front v p back rest) takes)

pub part_end : (g : Graph) → FitIsUsable g → (target : ℕ) (rows : List (List Reach)) → IsRun g target rows → ((b : ℕ) → g.AnchorEdge target b → ⊥) → (ps : List ℕ) (last count a : ℕ)
    → Part g target rows 0 ps last count → IsLeast (g.AnchorEdge last) a → IsAdequatePath g target (target ∷ ps) a rows
part_end g fu target rows run alone ps last count a h least =
    let long : length ps + 0 ≡ length rows = h.long in record {
      valid = subst (λ (zs : List ℕ). IsValidPath g target (target ∷ zs) a) (append-nil ps) (valid_from g fu target (ps ++ []) a (h.completes [] a least.0));
      count = omega arith;
      whole = run.whole;
      anchored = λ k d lt. subst (HasAnchored g) (get_or_default rows k [] d lt) (exact_anchored g k (row_of rows k) (run.exact k lt));
      successors = λ k lt. let lt0 : k < length rows = omega arith in exact_successor g (k + 1) (row_of rows k) (row_of rows (k + 1)) (run.exact k lt0) (run.exact (k + 1) lt);
      least_anchor = λ front v e b lt edge. least.1 b lt (subst (λ (u : ℕ). g.AnchorEdge u b) (same_last front h.front v last (sym e ∙ h.ends)) edge);
      not_alone = λ two b e. alone b e;
      not_shorter = λ k w e fit edge. no_takes (at_row (row_of rows k) w) (λ takes.
          let early : k + 1 < length rows = omega arith in
          run.closed k early (usable_from g target ps a (h.completes [] a least.0), inr (w, fit, edge, takes)));
      not_smaller = λ front back v p w e lt fit edge takes. walks_least g rows target 0 ps h.walks front back v p w e lt fit edge
          (subst (λ (n : ℕ). Takes (at_row (row_of rows (length back)) w) n) (sym (zero-add (counted g (issuers_of (front ++ v ∷ []))))) takes);
    }

-- A walk in code: its positions, the last of them, its count, and the rows left.
pub record Walks (g : Graph) (target : ℕ) (rows : List (List Reach)) (left : ℕ) (positions : List ℕ) (last count : ℕ) : Type 0 where
  pub issuers : List ℕ
  pub starts : positions ≡ target ∷ issuers
  pub part : Part g target rows left issuers last count

-- the walk begins at the target, if the last row opens it and no anchor follows it
pub walks_start : (g : Graph) (target : ℕ) (rows : List (List Reach)) (left : ℕ) (positions : List ℕ) → length rows ≡ left → ((a : ℕ) → g.AnchorEdge target a → ⊥)
    → (k : ℕ) × (k + 1 ≡ left) × Opens g target (row_of rows k) → positions ≡ target ∷ [] → Walks g target rows left positions target 0
walks_start g target rows left positions size alone o e =
    let k = o.0 in
    let ends : k + 1 ≡ left = o.1 in
    let down : suc k ≡ left = omega arith in
    let long : suc k ≡ length rows = omega arith in
    subst (λ (n : ℕ). Walks g target rows n positions target 0) down (elim o.2.1 [
      | inl a ↦ absurd (alone a.0 a.1)
      | inr x ↦ record { issuers = []; starts = e; part = part_start g target rows k o.2.0 long x.0 (x.1, x.2, x.3) }
    ])

next_is_there : (g : Graph) (target : ℕ) (rows : List (List Reach)) (k : ℕ) (ps : List ℕ) (last count : ℕ) → Part g target rows (suc k) ps last count → IsLeastOption (MayTake g (row_of rows k) last count) None → ⊥
next_is_there g target rows k ps last count h none = none h.leads.0 h.leads.1

-- while a row is left, a next certificate is there
pub walks_there : (g : Graph) (target : ℕ) (rows : List (List Reach)) (left : ℕ) (positions : List ℕ) (last count : ℕ) (row : List Reach) → 0 < left → row ≡ row_of rows (left - 1)
    → Walks g target rows left positions last count → IsLeastOption (MayTake g row last count) None → ⊥
walks_there g target rows left positions last count row some is h none =
    let e : left ≡ suc (left - 1) = omega arith in
    next_is_there g target rows (left - 1) h.issuers last count (subst (λ (n : ℕ). Part g target rows n h.issuers last count) e h.part)
    (subst (λ (r : List Reach). IsLeastOption (MayTake g r last count) None) is none)

-- one step
pub walks_on : (g : Graph) (target : ℕ) (rows : List (List Reach)) → IsRun g target rows → (left : ℕ) (positions pushed : List ℕ) (last count next now : ℕ) (row : List Reach) → 0 < left → row ≡ row_of rows (left - 1)
    → Walks g target rows left positions last count → pushed ≡ positions ++ next ∷ [] → IsLeast (MayTake g row last count) next → now ≡ count + one_of g next → Walks g target rows (left - 1) pushed next now
walks_on g target rows run left positions pushed last count next now row some is h e least counts =
    let down : left ≡ suc (left - 1) = omega arith in record {
      issuers = h.issuers ++ next ∷ [];
      starts = e ∙ ap (λ zs. zs ++ next ∷ []) h.starts;
      part = subst (λ (n : ℕ). Part g target rows (left - 1) (h.issuers ++ next ∷ []) next n) (sym counts)
          (part_step g target rows run (left - 1) h.issuers last count next (subst (λ (n : ℕ). Part g target rows n h.issuers last count) down h.part)
          (subst (λ (r : List Reach). IsLeast (MayTake g r last count) next) is least));
    }

-- the end
pub walks_end : (g : Graph) → FitIsUsable g → (target : ℕ) (rows : List (List Reach)) → IsRun g target rows → ((b : ℕ) → g.AnchorEdge target b → ⊥) → (left : ℕ) (positions : List ℕ) (last count a : ℕ)
    → left ≡ 0 → Walks g target rows left positions last count → IsLeast (g.AnchorEdge last) a → IsAdequatePath g target positions a rows
walks_end g fu target rows run alone left positions last count a e h least =
    subst (λ (zs : List ℕ). IsAdequatePath g target zs a rows) (sym h.starts)
    (part_end g fu target rows run alone h.issuers last count a (subst (λ (n : ℕ). Part g target rows n h.issuers last count) e h.part) least)

-- the row that the code reads
pub row_read : (rows : List (Vec Reach Global)) (k : ℕ) (r : Vec Reach Global) → k < length rows → r ≡ get_or rows k r → r.items ≡ row_of (map (λ (s : Vec Reach Global). s.items) rows) k
row_read rows k r within is = ap (λ (s : Vec Reach Global). s.items) is ∙ sym (get_or-map (λ (s : Vec Reach Global). s.items) rows k r [] within)
