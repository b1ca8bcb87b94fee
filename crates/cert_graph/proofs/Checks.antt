-- What a check finds, place by place.
use Rattle.std.proofs.Common.{◌≡◌, ℕ, suc, ◌+◌, ◌-◌, ◌<◌, ◌≤◌, Bool, true, false, not, cond, List, [], ◌∷◌, ◌++◌, length, map, take, drop, get_or, Vec, Global, arith, add-zero, drop-cons, length-drop, ap, sym, ◌∙◌, subst, refl}
use Rattle.std.specs.Prelude.{◌↔◌, All}
use Rattle.std.proofs.lemmas.List.{drop_all, take_all, get_or-map}
use Rattle.std.proofs.lemmas.List.Elements.{All-head}
use Rattle.cert_graph.specs.declared.reach.Reach.{Reach}
use Rattle.cert_graph.specs.Reach.{Takes}
use Rattle.cert_graph.specs.Graph.{Graph, counted, IsValidPath}
use Rattle.cert_graph.specs.Adequate.{at_row, row_of, issuers_of}
use Rattle.cert_graph.specs.Laws.{FitIsUsable}
use Rattle.cert_graph.specs.Steps.{one_of, FromTarget, Next, MayFollow, MayTake, Lowest}
use Rattle.cert_graph.proofs.Tails.{count_moved}
use Rattle.cert_graph.proofs.True.{from_valid}
use Rattle.cert_graph.proofs.PathLaws.{no_two, valid_from}

pub count_split : (g : Graph) (c q : ℕ) (ps front : List ℕ) (v p : ℕ) (back : List ℕ) → q ∷ ps ≡ front ++ v ∷ p ∷ back → c + counted g (front ++ v ∷ []) ≡ (c + one_of g q) + counted g (issuers_of (front ++ v ∷ []))
count_split g c q ps [] v p back e = let same : v ≡ q = cc e in ap (λ n. c + counted g (n ∷ [])) same ∙ count_moved g c q []
count_split g c q ps (x ∷ front) v p back e = let same : x ≡ q = cc e in ap (λ n. c + counted g (n ∷ (front ++ v ∷ []))) same ∙ count_moved g c q (front ++ v ∷ [])

-- no smaller issuer, as one clause over the whole list
abbrev pub NotSmaller : Graph → List (List Reach) → ℕ → List ℕ → Type 0
NotSmaller g rows c ps = (front back : List ℕ) (v p w : ℕ) → ps ≡ front ++ v ∷ p ∷ back → w < p → g.Fit w → g.Edge v w → Takes (at_row (row_of rows (length back)) w) (c + counted g (issuers_of (front ++ v ∷ []))) → ⊥

pub lowest_to_clause : (g : Graph) (rows : List (List Reach)) (v0 c0 : ℕ) (ps : List ℕ) → Lowest g rows v0 c0 ps → NotSmaller g rows c0 (v0 ∷ ps)
lowest_to_clause g rows v0 c0 [] t front back v p w e lt fit edge takes = no_two v0 v p front back e
lowest_to_clause g rows v0 c0 (q ∷ ps) t [] back v p w e lt fit edge takes =
    let sv : v ≡ v0 = cc e in
    let sp : p ≡ q = cc e in
    let sb : length back ≡ length ps = let eb : back ≡ ps = cc e in ap length eb in
    let lower : w < q = omega arith in
    t.0 w lower (fit, subst (λ (u : ℕ). g.Edge u w) sv edge, subst (λ (n : ℕ). Takes (at_row (row_of rows (length ps)) w) n) (add-zero c0) (subst (λ (i : ℕ). Takes (at_row (row_of rows i) w) (c0 + 0)) sb takes))
lowest_to_clause g rows v0 c0 (q ∷ ps) t (u ∷ front) back v p w e lt fit edge takes =
    let rest : q ∷ ps ≡ front ++ v ∷ p ∷ back = cc e in
    lowest_to_clause g rows q (c0 + one_of g q) ps t.1 front back v p w rest lt fit edge
    (subst (λ (n : ℕ). Takes (at_row (row_of rows (length back)) w) n) (count_split g c0 q ps front v p back rest) takes)

pub lowest_from_clause : (g : Graph) (rows : List (List Reach)) (v0 c0 : ℕ) (ps : List ℕ) → NotSmaller g rows c0 (v0 ∷ ps) → Lowest g rows v0 c0 ps
lowest_from_clause g rows v0 c0 [] h = tt
lowest_from_clause g rows v0 c0 (q ∷ ps) h = (
  λ u lt m. h [] ps v0 q u refl lt m.0 m.1 (subst (λ (n : ℕ). Takes (at_row (row_of rows (length ps)) u) n) (sym (add-zero c0)) m.2),
  lowest_from_clause g rows q (c0 + one_of g q) ps
      (λ front back v p w e lt fit edge takes. h (v0 ∷ front) back v p w (ap (λ zs. v0 ∷ zs) e) lt fit edge
      (subst (λ (n : ℕ). Takes (at_row (row_of rows (length back)) w) n) (sym (count_split g c0 q ps front v p back e)) takes)),
)

-- what is left of a path to check, from a place on
pub next_step : (g : Graph) (v c w : ℕ) (ps : List ℕ) (a : ℕ) → Next g v c (w ∷ ps) a ↔ (g.Edge v w × g.Fit w × Takes (g.limit w) c × Next g w (c + one_of g w) ps a)
next_step g v c w [] a = (λ n. (n.0, n.1.0, n.1.1, n.1.2), λ x. (x.0, (x.1, x.2, x.3)))
next_step g v c w (u ∷ ps) a = (λ n. (n.0, n.1.0, n.1.1, (n.1.2, n.1.3)), λ x. (x.0, (x.1, x.2, x.3.0, x.3.1)))

suc_is : (i : ℕ) → suc i ≡ i + 1
suc_is i = omega arith

next_drop : (g : Graph) (v c : ℕ) (is : List ℕ) (i a : ℕ) → i < length is → Next g v c (drop i is) a ↔ Next g v c (get_or is i 0 ∷ drop (i + 1) is) a
next_drop g v c is i a within =
    let e : drop i is ≡ get_or is i 0 ∷ drop (i + 1) is = drop-cons is i 0 within ∙ ap (λ (n : ℕ). get_or is i 0 ∷ drop n is) (suc_is i) in
    (λ n. subst (λ (zs : List ℕ). Next g v c zs a) e n, λ n. subst (λ (zs : List ℕ). Next g v c zs a) (sym e) n)

pub next_refused : (g : Graph) (v c : ℕ) (is : List ℕ) (i a : ℕ) → i < length is → (MayFollow g v c (get_or is i 0) → ⊥) → Next g v c (drop i is) a → ⊥
next_refused g v c is i a within no_step n =
    let x = (next_step g v c (get_or is i 0) (drop (i + 1) is) a).0 ((next_drop g v c is i a within).0 n) in no_step (x.0, x.1, x.2)

pub next_goes_on : (g : Graph) (v c : ℕ) (is : List ℕ) (i a : ℕ) → i < length is → MayFollow g v c (get_or is i 0) → Next g v c (drop i is) a ↔ Next g (get_or is i 0) (c + one_of g (get_or is i 0)) (drop (i + 1) is) a
next_goes_on g v c is i a within m = (
  λ n. ((next_step g v c (get_or is i 0) (drop (i + 1) is) a).0 ((next_drop g v c is i a within).0 n)).3,
  λ n. (next_drop g v c is i a within).1 ((next_step g v c (get_or is i 0) (drop (i + 1) is) a).1 (m.0, m.1, m.2, n)),
)

pub next_at_end : (g : Graph) (target v c : ℕ) (is : List ℕ) (i a : ℕ) → length is ≤ i → (Next g target 0 is a ↔ Next g v c (drop i is) a) → {P : Type 0} → (P ↔ g.AnchorEdge v a) → P ↔ Next g target 0 is a
next_at_end g target v c is i a past same k =
    let e : drop i is ≡ [] = drop_all i is past in
    (λ p. same.1 (subst (λ (zs : List ℕ). Next g v c zs a) (sym e) (k.0 p)), λ n. k.1 (subst (λ (zs : List ℕ). Next g v c zs a) e (same.0 n)))

one_at_most : (b : Bool) → cond (not b) 1 0 ≤ 1
one_at_most true = omega arith
one_at_most false = omega arith

pub count_small : (g : Graph) (c w i n : ℕ) → c + one_of g w ≡ n → c ≤ i → n ≤ i + 1
count_small g c w i n e le = let h = one_at_most (g.self_issued w) in omega arith

-- what is left of the clause on smaller positions, from a place on
lowest_drop : (g : Graph) (rows : List (List Reach)) (v c : ℕ) (is : List ℕ) (i : ℕ) → i < length is → Lowest g rows v c (drop i is) ↔ Lowest g rows v c (get_or is i 0 ∷ drop (i + 1) is)
lowest_drop g rows v c is i within =
    let e : drop i is ≡ get_or is i 0 ∷ drop (i + 1) is = drop-cons is i 0 within ∙ ap (λ (n : ℕ). get_or is i 0 ∷ drop n is) (suc_is i) in
    (λ n. subst (λ (zs : List ℕ). Lowest g rows v c zs) e n, λ n. subst (λ (zs : List ℕ). Lowest g rows v c zs) (sym e) n)

pub lowest_refused : (g : Graph) (rows : List (List Reach)) (v c : ℕ) (is : List ℕ) (i : ℕ) (row : List Reach) (k : ℕ) → i < length is → row ≡ row_of rows k → k + (i + 1) ≡ length is
    → (u : ℕ) × (u < get_or is i 0) × MayTake g row v c u → Lowest g rows v c (drop i is) → ⊥
lowest_refused g rows v c is i row k within is_row left x n =
    let e : k ≡ length (drop (i + 1) is) = omega (arith, length-drop (i + 1) is) in
    ((lowest_drop g rows v c is i within).0 n).0 x.0 x.1
    (subst (λ (j : ℕ). MayTake g (row_of rows j) v c x.0) e (subst (λ (r : List Reach). MayTake g r v c x.0) is_row x.2))

pub lowest_goes_on : (g : Graph) (rows : List (List Reach)) (v c : ℕ) (is : List ℕ) (i : ℕ) (row : List Reach) (k : ℕ) → i < length is → row ≡ row_of rows k → k + (i + 1) ≡ length is
    → ((u : ℕ) × (u < get_or is i 0) × MayTake g row v c u → ⊥)
    → Lowest g rows v c (drop i is) ↔ Lowest g rows (get_or is i 0) (c + one_of g (get_or is i 0)) (drop (i + 1) is)
lowest_goes_on g rows v c is i row k within is_row left none =
    let e : k ≡ length (drop (i + 1) is) = omega (arith, length-drop (i + 1) is) in (
      λ n. ((lowest_drop g rows v c is i within).0 n).1,
      λ n. (lowest_drop g rows v c is i within).1 (
        λ u lt m. none (u, lt, subst (λ (r : List Reach). MayTake g r v c u) (sym is_row) (subst (λ (j : ℕ). MayTake g (row_of rows j) v c u) (sym e) m)),
        n,
      ),
    )

-- a path by its target and what follows it
next_from : (g : Graph) (target : ℕ) (is : List ℕ) (a : ℕ) → FromTarget g target is a → Next g target 0 is a
next_from g target [] a t = t.1
next_from g target (w ∷ is) a t = (t.1, t.2)

from_next : (g : Graph) (target : ℕ) (is : List ℕ) (a : ℕ) → g.Usable target → Next g target 0 is a → FromTarget g target is a
from_next g target [] a usable n = (usable, n)
from_next g target (w ∷ is) a usable n = (usable, n.0, n.1)

-- all but the first, as the code cuts it
pub rest_is : (ps : List ℕ) → take (length ps - 1) (drop 1 ps) ≡ drop 1 ps
rest_is ps = take_all (length ps - 1) (drop 1 ps) (omega (arith, length-drop 1 ps))

pub valid_iff : (g : Graph) → FitIsUsable g → (target : ℕ) (ps rest : List ℕ) (a : ℕ) → rest ≡ drop 1 ps → 0 < length ps → get_or ps 0 0 ≡ target → g.Usable target
    → {P : Type 0} → (P ↔ Next g target 0 rest a) → P ↔ IsValidPath g target ps a
valid_iff g fu target [] rest a e some first usable k = absurd (omega arith)
valid_iff g fu target (p ∷ is) rest a e some first usable k = (
  λ x. subst (λ (q : ℕ). IsValidPath g target (q ∷ is) a) (sym first)
      (valid_from g fu target is a (from_next g target is a usable (subst (λ (zs : List ℕ). Next g target 0 zs a) e (k.0 x)))),
  λ v. let same : v.issuers ≡ rest = (let h : p ∷ is ≡ target ∷ v.issuers = v.starts in let j : is ≡ v.issuers = cc h in sym j ∙ sym e) in
      k.1 (subst (λ (zs : List ℕ). Next g target 0 zs a) same (next_from g target v.issuers a (from_valid g target (p ∷ is) a v))),
)

-- what begins a valid path
pub starts_with : (g : Graph) (target : ℕ) (ps : List ℕ) (a : ℕ) → IsValidPath g target ps a → (0 < length ps) × (get_or ps 0 0 ≡ target) × g.Usable target
starts_with g target ps a v =
    let e : ps ≡ target ∷ v.issuers = v.starts in
    (omega (arith, ap length e), ap (λ (xs : List ℕ). get_or xs 0 0) e, All-head g.Usable target v.issuers (subst (All g.Usable) e v.usable))

-- a row of the vectors of a table
pub row_read : (rows : List (Vec Reach Global)) (k : ℕ) (r : Vec Reach Global) (now : List Reach) → now ≡ r.items → k < length rows → r ≡ get_or rows k r → now ≡ row_of (map (λ s. s.items) rows) k
row_read rows k r now e within is =
    e ∙ ap (λ (s : Vec Reach Global). s.items) is ∙ sym (get_or-map (λ (s : Vec Reach Global). s.items) rows k r [] within)
