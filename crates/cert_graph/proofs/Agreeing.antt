-- Graphs that agree have equal adequate answers.
use Rattle.std.specs.Prelude.{◌↔◌}
use Rattle.std.proofs.Common.{◌≡◌, ℕ, ◌+◌, Bool, not, cond, List, [], ◌∷◌, ◌++◌, length, arith, ap, sym, ◌∙◌, subst, refl, inl, inr}
use Rattle.cert_graph.specs.declared.reach.Reach.{Reach}
use Rattle.cert_graph.specs.declared.answer.Answer.{Answer}
use Rattle.cert_graph.specs.declared.answer.Answer.TheVariants.{Path, NoPath, NoTarget}
use Rattle.cert_graph.specs.Reach.{Takes, IsAtMost, lesser, less_one}
use Rattle.cert_graph.specs.Graph.{Graph, counted, IsValidPath}
use Rattle.cert_graph.specs.Adequate.{at_row, row_of, rows_of, issuers_of, passed_by, HasAnchoredAt, IsSuccessor, IsAdequatePath, IsAdequateNone, IsAdequate, IsTrueAnswer}
use Rattle.cert_graph.specs.Laws.{FitIsUsable, Carries, Agrees}
use Rattle.cert_graph.specs.Steps.{one_of}
use Rattle.cert_graph.proofs.Tails.{counted_cons}
use Rattle.cert_graph.proofs.PathLaws.{path_carried, map_same}

pub agreed_carries : (g h : Graph) → Agrees g h → Carries (λ v. v) g h
agreed_carries g h e = record {
  usable = λ v. (e.usable v).0;
  fit = λ v. (e.fit v).0;
  self_issued = λ v f. e.self_issued v;
  limit = λ v c f t. subst (λ (r : Reach). Takes r c) (sym (e.limit v f)) t;
  edge = λ v w f. (e.edge v w f).0;
  anchored = λ v a. (e.anchored v a).0;
}

pub agreed_back : (g h : Graph) → Agrees g h → Agrees h g
agreed_back g h e = record {
  items = sym e.items;
  certificate = λ v. ((e.certificate v).1, (e.certificate v).0);
  usable = λ v. ((e.usable v).1, (e.usable v).0);
  fit = λ v. ((e.fit v).1, (e.fit v).0);
  self_issued = λ v. sym (e.self_issued v);
  limit = λ v f. sym (e.limit v ((e.fit v).1 f));
  edge = λ v w f. let x = e.edge v w ((e.fit w).1 f) in (x.1, x.0);
  anchored = λ v a. ((e.anchored v a).1, (e.anchored v a).0);
}

pub counted_same : (g h : Graph) → Agrees g h → (ps : List ℕ) → counted h ps ≡ counted g ps
counted_same g h e [] = refl
counted_same g h e (p ∷ ps) =
    let one : one_of h p ≡ one_of g p = ap (λ (b : Bool). cond (not b) 1 0) (e.self_issued p) in
    let x = counted_cons h p ps in
    let y = counted_cons g p ps in
    let i = counted_same g h e ps in
    omega arith

pub anchored_same : (g h : Graph) → Agrees g h → (row : List Reach) (v : ℕ) → HasAnchoredAt g row v → HasAnchoredAt h row v
unfolding HasAnchoredAt
anchored_same g h e row v k a fit edge = subst (λ (r : Reach). IsAtMost r (at_row row v)) (sym (e.limit v ((e.fit v).1 fit))) (k a ((e.fit v).1 fit) ((e.anchored v a).1 edge))

pub successor_same : (g h : Graph) → Agrees g h → (r s : List Reach) → IsSuccessor g r s → IsSuccessor h r s
successor_same g h e r s k v w fv fw edge =
    subst (λ (x : Reach). IsAtMost (lesser x (passed_by h v (at_row r w))) (at_row s v)) (sym (e.limit v ((e.fit v).1 fv)))
    (subst (λ (b : Bool). IsAtMost (lesser (g.limit v) (cond b (at_row r w) (less_one (at_row r w)))) (at_row s v)) (sym (e.self_issued v)) (k v w ((e.fit v).1 fv) ((e.fit w).1 fw) ((e.edge v w ((e.fit w).1 fw)).1 edge)))

pub valid_same : (g h : Graph) → Agrees g h → FitIsUsable h → (target : ℕ) (ps : List ℕ) (a : ℕ) → IsValidPath g target ps a → IsValidPath h target ps a
valid_same g h e fu target ps a v = subst (λ (qs : List ℕ). IsValidPath h target qs a) (map_same ps) (path_carried (λ x. x) g h (agreed_carries g h e) fu target ps a v)

pub path_same : (g h : Graph) → Agrees g h → FitIsUsable h → (target : ℕ) (ps : List ℕ) (a : ℕ) (rows : List (List Reach)) → IsAdequatePath g target ps a rows → IsAdequatePath h target ps a rows
path_same g h e fu target ps a rows k = record {
  valid = valid_same g h e fu target ps a k.valid;
  count = k.count;
  whole = λ i d lt. k.whole i d lt ∙ e.items;
  anchored = λ i d lt v. anchored_same g h e _ v (k.anchored i d lt v);
  successors = λ i lt. successor_same g h e (row_of rows i) (row_of rows (i + 1)) (k.successors i lt);
  least_anchor = λ front v x b lt edge. k.least_anchor front v x b lt ((e.anchored v b).1 edge);
  not_alone = λ two b edge. k.not_alone two b ((e.anchored target b).1 edge);
  not_shorter = λ i w x fit edge. k.not_shorter i w x ((e.fit w).1 fit) ((e.edge target w ((e.fit w).1 fit)).1 edge);
  not_smaller = λ front back v p w x lt fit edge takes. k.not_smaller front back v p w x lt ((e.fit w).1 fit) ((e.edge v w ((e.fit w).1 fit)).1 edge)
      (subst (λ (n : ℕ). Takes (at_row (row_of rows (length back)) w) n) (counted_same g h e (issuers_of (front ++ v ∷ []))) takes);
}

pub none_same : (g h : Graph) → Agrees g h → (target : ℕ) (rows : List (List Reach)) → IsAdequateNone g target rows → IsAdequateNone h target rows
none_same g h e target rows k = record {
  certificate = (e.certificate target).0 k.certificate;
  row = k.row;
  one = k.one;
  whole = k.whole ∙ e.items;
  anchored = λ v. anchored_same g h e k.row v (k.anchored v);
  fixed = successor_same g h e k.row k.row k.fixed;
  closed = elim k.closed [
    | inl unusable ↦ inl (λ u. unusable ((e.usable target).1 u))
    | inr x ↦ inr (λ b edge. x.0 b ((e.anchored target b).1 edge), λ w fit edge. x.1 w ((e.fit w).1 fit) ((e.edge target w ((e.fit w).1 fit)).1 edge))
  ];
}

pub adequate_same : (g h : Graph) → Agrees g h → FitIsUsable h → (target : ℕ) (answer : Answer) → IsAdequate g target answer → IsAdequate h target answer
adequate_same g h e fu target (Path ps a table) k = path_same g h e fu target ps.items a (rows_of table) k
adequate_same g h e fu target (NoPath table) k = none_same g h e target (rows_of table) k
adequate_same g h e fu target NoTarget k = λ x. k ((e.certificate target).1 x)

-- fit is usable in one graph if it is so in the other
pub agreed_fit : (g h : Graph) → Agrees g h → FitIsUsable g → FitIsUsable h
agreed_fit g h e fu v fit = (e.usable v).0 (fu v ((e.fit v).1 fit))

pub agreed_adequate : (g h : Graph) → Agrees g h → FitIsUsable g → (target : ℕ) (answer : Answer) → IsAdequate g target answer ↔ IsAdequate h target answer
agreed_adequate g h e fu target answer = (
  λ k. adequate_same g h e (agreed_fit g h e fu) target answer k,
  λ k. adequate_same h g (agreed_back g h e) fu target answer k,
)

true_same : (g h : Graph) → Agrees g h → FitIsUsable g → FitIsUsable h → (target : ℕ) (answer : Answer) → IsTrueAnswer g target answer → IsTrueAnswer h target answer
true_same g h e fu hu target (Path ps a table) k = record {
  valid = valid_same g h e hu target ps.items a k.valid;
  first = λ qs b v before. k.first qs b (valid_same h g (agreed_back g h e) fu target qs b v) before;
}
true_same g h e fu hu target (NoPath table) k =
    ((e.certificate target).0 k.0, λ ps a v. k.1 ps a (valid_same h g (agreed_back g h e) fu target ps a v))
true_same g h e fu hu target NoTarget k = λ x. k ((e.certificate target).1 x)

pub agreed_true : (g h : Graph) → Agrees g h → FitIsUsable g → (target : ℕ) (answer : Answer) → IsTrueAnswer g target answer ↔ IsTrueAnswer h target answer
agreed_true g h e fu target answer = (
  λ k. true_same g h e fu (agreed_fit g h e fu) target answer k,
  λ k. true_same h g (agreed_back g h e) (agreed_fit g h e fu) fu target answer k,
)
