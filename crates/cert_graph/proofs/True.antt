-- An adequate answer is true.
use Rattle.std.proofs.Common.{◌≡◌, ℕ, ◌+◌, ◌-◌, ◌≤◌, ◌<◌, List, [], ◌∷◌, ◌++◌, length, arith, zero-add, ap, sym, ◌∙◌, subst, refl, inl, inr, append_assoc, length-append}
use Rattle.std.specs.Prelude.{All}
use Rattle.std.proofs.lemmas.List.Elements.{All-head}
use Rattle.cert_graph.specs.Steps.{Tail, FromTarget}
use Rattle.cert_graph.specs.declared.reach.Reach.{Reach}
use Rattle.cert_graph.specs.declared.answer.Answer.{Answer}
use Rattle.cert_graph.specs.declared.answer.Answer.TheVariants.{Path, NoPath, NoTarget}
use Rattle.cert_graph.specs.Reach.{Takes}
use Rattle.cert_graph.specs.Graph.{Graph, counted, AreNeighbours, EndsIn, KeepsLimits, IsValidPath, IsFirstPath}
use Rattle.cert_graph.specs.Adequate.{at_row, row_of, rows_of, issuers_of, IsAdequatePath, IsAdequateNone, IsAdequate, IsTrueAnswer}
use Rattle.cert_graph.proofs.ReachFacts.{none_taken}
use Rattle.cert_graph.proofs.Tails.{tail_of_chain, tail_drop, rows_take, fixed_takes, tail_fit}

pub from_parts : (g : Graph) (target : ℕ) (issuers : List ℕ) (a : ℕ) → All g.Usable (target ∷ issuers) → All g.Fit issuers → AreNeighbours g.Edge (target ∷ issuers) → EndsIn (λ v. g.AnchorEdge v a) (target ∷ issuers) → KeepsLimits g 0 issuers → FromTarget g target issuers a
from_parts g target [] a usable fit linked anchored limits = (All-head g.Usable target [] usable, anchored [] target refl)
from_parts g target (w ∷ ps) a usable fit linked anchored limits = (
  All-head g.Usable target (w ∷ ps) usable,
  linked [] ps target w refl,
  tail_of_chain g 0 w ps a fit
      (λ front back x y e. linked (target ∷ front) back x y (ap (λ ys. target ∷ ys) e))
      (λ front x e. anchored (target ∷ front) x (ap (λ ys. target ∷ ys) e))
      limits,
)

pub from_valid : (g : Graph) (target : ℕ) (ps : List ℕ) (a : ℕ) (h : IsValidPath g target ps a) → FromTarget g target h.issuers a
from_valid g target ps a h =
    from_parts g target h.issuers a (subst (All g.Usable) h.starts h.usable) h.fit
    (subst (AreNeighbours g.Edge) h.starts h.linked)
    (subst (EndsIn (λ v. g.AnchorEdge v a)) h.starts h.anchored) h.limits

-- the last of a list that has one
pub last_of : (x : ℕ) (xs : List ℕ) → (front : List ℕ) × (y : ℕ) × (x ∷ xs ≡ front ++ y ∷ [])
last_of x [] = ([], x, refl)
last_of x (y ∷ ys) = let h = last_of y ys in (x ∷ h.0, h.1, ap (λ zs. x ∷ zs) h.2)

-- no shorter path
pub not_shorter_first : (g : Graph) (target : ℕ) (ps : List ℕ) (a : ℕ) (rows : List (List Reach)) → IsAdequatePath g target ps a rows
    → (issuers : List ℕ) (b : ℕ) → length (target ∷ issuers) < length ps → FromTarget g target issuers b → ⊥
not_shorter_first g target ps a rows h [] b short t =
    let two : 2 ≤ length ps = omega arith in h.not_alone two b t.1
not_shorter_first g target ps a rows h (w ∷ rest) b short t =
    let k : (n : ℕ) × (n + 3 ≡ length ps) = (length ps - 3, omega arith) in
    let fits : length rest ≤ k.0 = omega arith in
    let count : length rows + 1 ≡ length ps = h.count in
    let within : k.0 < length rows = omega arith in
    none_taken (at_row (row_of rows k.0) w) 0 (h.not_shorter k.0 w k.1 (tail_fit g 0 w rest b t.2) t.1)
    (rows_take g rows h.anchored h.successors rest k.0 0 w b fits within t.2)

-- the chain from a place of a path on, met at the count of what comes before it
pub tail_at : (g : Graph) (target : ℕ) (front : List ℕ) (p : ℕ) (rest : List ℕ) (a : ℕ) → FromTarget g target (front ++ p ∷ rest) a → Tail g (counted g front) p rest a
tail_at g target [] p rest a t = t.2
tail_at g target (u ∷ front) p rest a t =
    subst (λ (n : ℕ). Tail g n p rest a) (zero-add (counted g (u ∷ front))) (tail_drop g 0 u front p rest a t.2)

-- no path of equal length with a smaller position
pub not_smaller_first : (g : Graph) (target : ℕ) (ps : List ℕ) (a : ℕ) (rows : List (List Reach)) → IsAdequatePath g target ps a rows
    → (qs : List ℕ) (b : ℕ) → IsValidPath g target qs b → length qs ≡ length ps
    → (front : List ℕ) (p q : ℕ) (prest qrest : List ℕ) → qs ≡ front ++ p ∷ prest → ps ≡ front ++ q ∷ qrest → p < q → ⊥
not_smaller_first g target ps a rows h qs b v same [] p q prest qrest eq ep lt =
    let one : target ∷ v.issuers ≡ p ∷ prest = sym v.starts ∙ eq in
    let two : target ∷ h.valid.issuers ≡ q ∷ qrest = sym h.valid.starts ∙ ep in
    let e : p ≡ q = cc (one, two) in
    absurd (omega arith)
not_smaller_first g target ps a rows h qs b v same (t ∷ f) p q prest qrest eq ep lt =
    let one : target ∷ v.issuers ≡ t ∷ (f ++ p ∷ prest) = sym v.starts ∙ eq in
    let issuers : v.issuers ≡ f ++ p ∷ prest = cc one in
    let tail : Tail g (counted g f) p prest b = tail_at g target f p prest b (subst (λ (is : List ℕ). FromTarget g target is b) issuers (from_valid g target qs b v)) in
    let l = last_of t f in
    let eq2 : qs ≡ l.0 ++ l.1 ∷ p ∷ prest = eq ∙ ap (λ (zs : List ℕ). zs ++ p ∷ prest) l.2 ∙ append_assoc l.0 (l.1 ∷ []) (p ∷ prest) in
    let ep2 : ps ≡ l.0 ++ l.1 ∷ q ∷ qrest = ep ∙ ap (λ (zs : List ℕ). zs ++ q ∷ qrest) l.2 ∙ append_assoc l.0 (l.1 ∷ []) (q ∷ qrest) in
    let edge : g.Edge l.1 p = v.linked l.0 prest l.1 p eq2 in
    let lq : length qs ≡ length (t ∷ f) + length (p ∷ prest) = ap length eq ∙ length-append (t ∷ f) (p ∷ prest) in
    let lp : length ps ≡ length (t ∷ f) + length (q ∷ qrest) = ap length ep ∙ length-append (t ∷ f) (q ∷ qrest) in
    let count : length rows + 1 ≡ length ps = h.count in
    let fits : length prest ≤ length qrest = omega arith in
    let within : length qrest < length rows = omega arith in
    let taken : Takes (at_row (row_of rows (length qrest)) p) (counted g f) = rows_take g rows h.anchored h.successors prest (length qrest) (counted g f) p b fits within tail in
    h.not_smaller l.0 qrest l.1 q p ep2 lt (tail_fit g (counted g f) p prest b tail) edge
    (subst (λ (zs : List ℕ). Takes (at_row (row_of rows (length qrest)) p) (counted g (issuers_of zs))) l.2 taken)

-- no smaller anchor at the same positions
pub not_lower_anchor : (g : Graph) (target : ℕ) (ps : List ℕ) (a : ℕ) (rows : List (List Reach)) → IsAdequatePath g target ps a rows
    → (b : ℕ) → IsValidPath g target ps b → b < a → ⊥
not_lower_anchor g target ps a rows h b v lt =
    let l = last_of target v.issuers in
    let e : ps ≡ l.0 ++ l.1 ∷ [] = v.starts ∙ l.2 in
    h.least_anchor l.0 l.1 e b lt (v.anchored l.0 l.1 e)

pub first_path : (g : Graph) (target : ℕ) (ps : List ℕ) (a : ℕ) (rows : List (List Reach)) → IsAdequatePath g target ps a rows → IsFirstPath g target ps a
first_path g target ps a rows h = record {
  valid = h.valid;
  first = λ qs b v before. elim before [
    | inl short ↦ not_shorter_first g target ps a rows h v.issuers b (subst (λ (zs : List ℕ). length zs < length ps) v.starts short) (from_valid g target qs b v)
    | inr rest ↦ elim rest [
      | inl x ↦ let y = x.1 in not_smaller_first g target ps a rows h qs b v x.0 y.0 y.1 y.2 y.3 y.4 y.5 y.6 y.7
      | inr x ↦ not_lower_anchor g target ps a rows h b (subst (λ (zs : List ℕ). IsValidPath g target zs b) x.0 v) x.1
    ]
  ];
}

pub no_path_from : (g : Graph) (target : ℕ) (rows : List (List Reach)) → IsAdequateNone g target rows → (issuers : List ℕ) (a : ℕ) → FromTarget g target issuers a → ⊥
no_path_from g target rows h [] a t = elim h.closed [ inl unusable ↦ unusable t.0 | inr c ↦ c.0 a t.1 ]
no_path_from g target rows h (w ∷ ps) a t = elim h.closed [
  | inl unusable ↦ unusable t.0
  | inr c ↦ none_taken (at_row h.row w) 0 (c.1 w (tail_fit g 0 w ps a t.2) t.1) (fixed_takes g h.row h.anchored h.fixed ps 0 w a t.2)
]

pub adequate_is_true : (g : Graph) (target : ℕ) (answer : Answer) → IsAdequate g target answer → IsTrueAnswer g target answer
adequate_is_true g target (Path ps a table) h = first_path g target ps.items a (rows_of table) h
adequate_is_true g target (NoPath table) h = (h.certificate, λ ps a v. no_path_from g target (rows_of table) h v.issuers a (from_valid g target ps a v))
adequate_is_true g target NoTarget h = h
