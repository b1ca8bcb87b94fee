-- Octets have one class each, and what is found of one graph holds of those that agree.
use Rattle.std.specs.Prelude.{◌↔◌}
use Rattle.std.proofs.Common.{◌≡◌, ◌∙◌, ap, sym, subst, ℕ, ◌<◌, Bool, List, [], ◌∷◌, length, map, arith, get_or, IsTrue, refl}
use Rattle.std.specs.List.{All}
use Rattle.std.proofs.lemmas.List.{get_or-map, length-map}
use Rattle.std.proofs.lemmas.List.Elements.{All-head, All-tail}
use Rattle.cert_graph.specs.declared.answer.Answer.{Answer}
use Rattle.cert_graph.specs.declared.answer.Answer.TheVariants.{Path, NoPath, NoTarget}
use Rattle.cert_graph.specs.Adequate.{IsAdequate, IsTrueAnswer}
use Rattle.cert_graph.specs.Entries.{IsAt}
use Rattle.cert_model.specs.Fields.{Certificate}
use Rattle.cert_model.specs.Class.{Class, IsClassOf, IsCertificateItem}
use Rattle.cert_model.proofs.Classes.{class_once}
use Rattle.cert_judge.specs.Judging.{IsUsable}
use Rattle.cert_judge.specs.Revoking.{Item, JudgingContext}
use Rattle.cert_judge.specs.Classed.{AreClassed}
use Rattle.cert_judge.specs.ItemGraph.{IsCertificateWith, graph_of_items}
use Rattle.certpath_find.specs.Answered.{HoldsOfItems, NamesCertificates}

abbrev octets_of : Item → List ℕ
octets_of x = x.octets

abbrev IsClassed : Item → Type 0
IsClassed x = IsClassOf x.octets x.class

tail_of : List (List ℕ) → List (List ℕ)
tail_of [] = []
tail_of (x ∷ xs) = xs

same_items : (xs ys : List Item) → map octets_of xs ≡ map octets_of ys → All IsClassed xs → All IsClassed ys → xs ≡ ys
unfolding tail_of
same_items [] [] e p q = refl
same_items [] (y ∷ ys) e p q = absurd (omega (arith, ap length e))
same_items (x ∷ xs) [] e p q = absurd (omega (arith, ap length e))
same_items (x ∷ xs) (y ∷ ys) e p q =
    let octets : x.octets ≡ y.octets = ap (λ l. get_or l 0 []) e in
    let class : x.class ≡ y.class = class_once y.octets x.class y.class (subst (λ s. IsClassOf s x.class) octets (All-head IsClassed x xs p)) (All-head IsClassed y ys q) in
    let item : ◌≡◌ {A = Item} x y = ap (λ s. record { octets = s; class = x.class }) octets ∙ ap (λ k. record { octets = y.octets; class = k }) class in
    ap (λ z. z ∷ xs) item ∙ ap (λ l. y ∷ l) (same_items xs ys (ap tail_of e) (All-tail IsClassed x xs p) (All-tail IsClassed y ys q))

pub one_classing : (octets : List (List ℕ)) (items others : List Item) → AreClassed octets items → AreClassed octets others → items ≡ others
one_classing octets items others p q = same_items items others (p.octets_are ∙ sym q.octets_are) p.classes q.classes

pub check_says_yes : (r : JudgingContext) (items anchors : List (List ℕ)) (target : ℕ) (answer : Answer) (said : Bool) → HoldsOfItems r items anchors (λ g. IsTrue said ↔ IsAdequate g target answer)
    → HoldsOfItems r items anchors (λ g. IsAdequate g target answer) → IsTrue said
check_says_yes r items anchors target answer said check find =
    let a = one_classing items find.0 check.0 find.2 check.2 in
    let b = one_classing anchors find.1 check.1 find.3 check.3 in
    check.4.1 (subst (λ xs. IsAdequate (graph_of_items r xs check.1) target answer) a (subst (λ ys. IsAdequate (graph_of_items r find.0 ys) target answer) b find.4))

pub certificate_at : (octets : List (List ℕ)) (items : List Item) (P : Item → Certificate → Type 0) (p : ℕ) → AreClassed octets items → IsAt items p (λ x. IsCertificateWith (P x) x) → IsAt octets p (λ s. (c : Certificate) × IsCertificateItem s c)
certificate_at octets items P p classed at =
    let count : length items ≡ length octets = sym (length-map items octets_of) ∙ ap length classed.octets_are in
    let below : p < length octets = omega (arith, count, at.0) in (
      below,
      λ d.
          let x : Item = record { octets = d; class = Class.other } in
          let h = at.1 x in
          let c = h.0 in
          let is : IsCertificateItem (get_or items p x).octets c = subst (IsClassOf (get_or items p x).octets) h.1 (classed.classes p x at.0) in
          let same : (get_or items p x).octets ≡ get_or octets p d = sym (get_or-map octets_of items p x d at.0) ∙ ap (λ l. get_or l p d) classed.octets_are in
          (c, subst (λ s. IsCertificateItem s c) same is),
    )

pub names_certificates : (r : JudgingContext) (octets : List (List ℕ)) (items anchors : List Item) (target : ℕ) (answer : Answer) → AreClassed octets items → IsTrueAnswer (graph_of_items r items anchors) target answer → NamesCertificates octets answer
names_certificates r octets items anchors target (Path ps a table) classed true_answer =
    λ k d lt. certificate_at octets items (λ x. IsUsable (r.Processes x.octets) r.moment) (get_or ps.items k d) classed (true_answer.valid.usable k d lt)
names_certificates r octets items anchors target (NoPath table) classed true_answer = tt
names_certificates r octets items anchors target NoTarget classed true_answer = tt
