-- Laws of valid paths.
use Rattle.std.proofs.Common.{◌≡◌, ℕ, ◌+◌, ◌≤◌, ◌<◌, Bool, not, cond, List, [], ◌∷◌, ◌++◌, length, map, arith, ap, sym, ◌∙◌, subst, refl, inl, length-append}
use Rattle.std.proofs.lemmas.List.Elements.{All-cons, All-nil, All-weaker}
use Rattle.cert_graph.specs.Graph.{Graph, counted, AreNeighbours, EndsIn, IsValidPath, IsFirstPath}
use Rattle.cert_graph.specs.Laws.{FitIsUsable, NamesNoneTwice, Carries}
use Rattle.cert_graph.proofs.ReachFacts.{fewer_taken}
use Rattle.cert_graph.specs.Steps.{one_of, Tail, FromTarget}
use Rattle.cert_graph.proofs.Tails.{tail_drop, tail_fit, fit_of_tail, linked_of_tail, anchored_of_tail, limits_of_tail}
use Rattle.cert_graph.proofs.True.{from_valid, tail_at}

-- a chain may be met at a lesser count
pub tail_less : (g : Graph) (c d v : ℕ) (ps : List ℕ) (a : ℕ) → d ≤ c → Tail g c v ps a → Tail g d v ps a
tail_less g c d v [] a le t = (t.0, fewer_taken (g.limit v) d c le t.1, t.2)
tail_less g c d v (w ∷ ps) a le t =
    let more : d + one_of g v ≤ c + one_of g v = omega arith in
    (t.0, fewer_taken (g.limit v) d c le t.1, t.2, tail_less g (c + one_of g v) (d + one_of g v) w ps a more t.3)

-- a loop in a chain may be left out
pub tail_splice : (g : Graph) (c v : ℕ) (loop rest : List ℕ) (a : ℕ) → Tail g c v (loop ++ v ∷ rest) a → Tail g c v rest a
tail_splice g c v loop rest a t =
    tail_less g (c + counted g (v ∷ loop)) c v rest a (omega arith) (tail_drop g c v loop v rest a t)

-- the end of a chain may be exchanged for one that takes as much
pub tail_exchange : (g : Graph) (c u : ℕ) (front : List ℕ) (v : ℕ) (old new : List ℕ) (a b : ℕ)
    → ((d : ℕ) → Tail g d v old a → Tail g d v new b) → Tail g c u (front ++ v ∷ old) a → Tail g c u (front ++ v ∷ new) b
tail_exchange g c u [] v old new a b f t = (t.0, t.1, t.2, f (c + one_of g u) t.3)
tail_exchange g c u (w ∷ front) v old new a b f t =
    (t.0, t.1, t.2, tail_exchange g (c + one_of g u) w front v old new a b f t.3)

-- splits of short lists
pub no_one : (x : ℕ) (front back : List ℕ) → [] ≡ front ++ x ∷ back → ⊥
no_one x [] back e = cc e
no_one x (u ∷ front) back e = cc e

pub no_two : (t x y : ℕ) (front back : List ℕ) → t ∷ [] ≡ front ++ x ∷ y ∷ back → ⊥
no_two t x y [] back e = cc e
no_two t x y (u ∷ front) back e = let rest : [] ≡ front ++ x ∷ y ∷ back = cc e in no_one x front (y ∷ back) rest

pub only : (t x : ℕ) (front : List ℕ) → t ∷ [] ≡ front ++ x ∷ [] → t ≡ x
only t x [] e = cc e
only t x (u ∷ front) e = let rest : [] ≡ front ++ x ∷ [] = cc e in absurd (no_one x front [] rest)

linked_on : (g : Graph) (t w : ℕ) (ps : List ℕ) → g.Edge t w → AreNeighbours g.Edge (w ∷ ps) → AreNeighbours g.Edge (t ∷ w ∷ ps)
linked_on g t w ps edge linked [] back x y e =
    let ex : t ≡ x = cc e in
    let ey : w ≡ y = cc e in
    subst (λ (z : ℕ). g.Edge z y) ex (subst (g.Edge t) ey edge)
linked_on g t w ps edge linked (u ∷ front) back x y e =
    let rest : w ∷ ps ≡ front ++ x ∷ y ∷ back = cc e in linked front back x y rest

anchored_on : (g : Graph) (t w : ℕ) (ps : List ℕ) (a : ℕ) → EndsIn (λ v. g.AnchorEdge v a) (w ∷ ps) → EndsIn (λ v. g.AnchorEdge v a) (t ∷ w ∷ ps)
anchored_on g t w ps a h [] x e = absurd (cc e)
anchored_on g t w ps a h (u ∷ front) x e = let rest : w ∷ ps ≡ front ++ x ∷ [] = cc e in h front x rest

usable_of : (g : Graph) (target : ℕ) (issuers : List ℕ) (a : ℕ) → FromTarget g target issuers a → g.Usable target
usable_of g target [] a t = t.0
usable_of g target (w ∷ ps) a t = t.0

from_loop : (g : Graph) (target v c : ℕ) (back : List ℕ) (a : ℕ) → v ≡ target → g.Usable target → Tail g c v back a → FromTarget g target back a
from_loop g target v c [] a e usable t = (usable, subst (λ (z : ℕ). g.AnchorEdge z a) e t.2)
from_loop g target v c (w ∷ ps) a e usable t =
    (usable, subst (λ (z : ℕ). g.Edge z w) e t.2, tail_less g (c + one_of g v) 0 w ps a (omega arith) t.3)

splice_from : (g : Graph) (target : ℕ) (front between back : List ℕ) (v a : ℕ) → FromTarget g target (front ++ v ∷ (between ++ v ∷ back)) a → FromTarget g target (front ++ v ∷ back) a
splice_from g target [] between back v a t = (t.0, t.1, tail_splice g 0 v between back a t.2)
splice_from g target (u ∷ front) between back v a t =
    (t.0, t.1, tail_exchange g 0 u front v (between ++ v ∷ back) back a a (λ d x. tail_splice g d v between back a x) t.2)

pub valid_from : (g : Graph) → FitIsUsable g → (target : ℕ) (issuers : List ℕ) (a : ℕ) → FromTarget g target issuers a → IsValidPath g target (target ∷ issuers) a
valid_from g fu target [] a t = record {
  issuers = [];
  starts = refl;
  usable = All-cons g.Usable target [] t.0 (All-nil g.Usable);
  fit = All-nil g.Fit;
  linked = λ front back x y e. absurd (no_two target x y front back e);
  anchored = λ front x e. subst (λ (z : ℕ). g.AnchorEdge z a) (only target x front e) t.1;
  limits = λ front back x e. absurd (no_one x front back e);
}
valid_from g fu target (w ∷ ps) a t = record {
  issuers = w ∷ ps;
  starts = refl;
  usable = All-cons g.Usable target (w ∷ ps) t.0 (All-weaker g.Fit g.Usable fu (w ∷ ps) (fit_of_tail g 0 w ps a t.2));
  fit = fit_of_tail g 0 w ps a t.2;
  linked = linked_on g target w ps t.1 (linked_of_tail g 0 w ps a t.2);
  anchored = anchored_on g target w ps a (anchored_of_tail g 0 w ps a t.2);
  limits = limits_of_tail g 0 w ps a t.2;
}

-- a valid path with a position that comes twice is not the first
pub none_twice_from : (g : Graph) (target : ℕ) (front between back : List ℕ) (v : ℕ) (issuers : List ℕ) (a : ℕ) → target ∷ issuers ≡ front ++ v ∷ (between ++ v ∷ back) → FromTarget g target issuers a
    → (shorter : List ℕ) × (length shorter < length issuers) × FromTarget g target shorter a
none_twice_from g target [] between back v issuers a e t =
    let same : target ≡ v = cc e in
    let is : issuers ≡ between ++ v ∷ back = cc e in
    let l = ap length is ∙ length-append between (v ∷ back) in
    let tail : Tail g (counted g between) v back a = tail_at g target between v back a (subst (λ (zs : List ℕ). FromTarget g target zs a) is t) in
    (back, omega arith, from_loop g target v (counted g between) back a (sym same) (usable_of g target issuers a t) tail)
none_twice_from g target (u ∷ front) between back v issuers a e t =
    let is : issuers ≡ front ++ v ∷ (between ++ v ∷ back) = cc e in
    let l = ap length is ∙ length-append front (v ∷ (between ++ v ∷ back)) in
    let m = length-append between (v ∷ back) in
    let n = length-append front (v ∷ back) in
    (front ++ v ∷ back, omega arith, splice_from g target front between back v a (subst (λ (zs : List ℕ). FromTarget g target zs a) is t))

pub first_names_none_twice : (g : Graph) → FitIsUsable g → (target : ℕ) (ps : List ℕ) (a : ℕ) → IsFirstPath g target ps a → NamesNoneTwice ps
first_names_none_twice g fu target ps a h front between back v e =
    let x = none_twice_from g target front between back v h.valid.issuers a (sym h.valid.starts ∙ e) (from_valid g target ps a h.valid) in
    let l = ap length h.valid.starts in
    let short : length (target ∷ x.0) < length ps = omega arith in
    h.first (target ∷ x.0) a (valid_from g fu target x.0 a x.2) (inl short)

-- chains and paths are carried along
pub tail_carried : (f : ℕ → ℕ) (g h : Graph) → Carries f g h → (c v : ℕ) (ps : List ℕ) (a : ℕ) → Tail g c v ps a → Tail h c (f v) (map f ps) a
tail_carried f g h k c v [] a t = (k.fit v t.0, k.limit v c t.0 t.1, k.anchored v a t.2)
tail_carried f g h k c v (w ∷ ps) a t = (
  k.fit v t.0,
  k.limit v c t.0 t.1,
  k.edge v w (tail_fit g (c + one_of g v) w ps a t.3) t.2,
  subst (λ (b : Bool). Tail h (c + cond (not b) 1 0) (f w) (map f ps) a) (sym (k.self_issued v t.0)) (tail_carried f g h k (c + one_of g v) w ps a t.3),
)

pub from_carried : (f : ℕ → ℕ) (g h : Graph) → Carries f g h → (target : ℕ) (issuers : List ℕ) (a : ℕ) → FromTarget g target issuers a → FromTarget h (f target) (map f issuers) a
from_carried f g h k target [] a t = (k.usable target t.0, k.anchored target a t.1)
from_carried f g h k target (w ∷ ps) a t = (k.usable target t.0, k.edge target w (tail_fit g 0 w ps a t.2) t.1, tail_carried f g h k 0 w ps a t.2)

pub path_carried : (f : ℕ → ℕ) (g h : Graph) → Carries f g h → FitIsUsable h → (target : ℕ) (ps : List ℕ) (a : ℕ) → IsValidPath g target ps a → IsValidPath h (f target) (map f ps) a
path_carried f g h k fu target ps a v =
    subst (λ (zs : List ℕ). IsValidPath h (f target) zs a) (ap (map f) (sym v.starts))
    (valid_from h fu (f target) (map f v.issuers) a (from_carried f g h k target v.issuers a (from_valid g target ps a v)))

pub map_same : (ps : List ℕ) → map (λ v. v) ps ≡ ps
map_same [] = refl
map_same (p ∷ ps) = ap (λ qs. p ∷ qs) (map_same ps)
