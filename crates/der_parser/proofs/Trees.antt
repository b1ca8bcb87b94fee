-- Trees read by a tag number.
use Rattle.std.proofs.Common.{◌≡◌, ◌≢◌, ◌∙◌, sym, ap, subst, ℕ, List, ◌++◌, Bor, Result, Ok, Err}
use Rattle.std.specs.Result.{IsErrAnd}
use Rattle.asn1_core.specs.declared.error.Error.{Error}
use Rattle.asn1_core.specs.declared.outcome.Err.{Err as Refusal}
use Rattle.asn1_core.specs.declared.outcome.Err.TheVariants as refusals
use Rattle.asn1_core.specs.Answers.{TakesNoMemory}
use Rattle.asn1_core.specs.Elements.{Element, head_of_element}
use Rattle.asn1_core.specs.Missing.{IsMissing}
use Rattle.asn1_core.specs.Strict.{Head}
use Rattle.der_tree.specs.Shape.{IsContent, HoldsLeaf}
use Rattle.der_tree.specs.Table.{IsConstructed}
use Rattle.der_tree.specs.Tree.{Tree, node, Content}
use Rattle.der_tree.specs.View.{as_universal}
use Rattle.der_tree.specs.Outcome.{Refuses, IsNotCut}
use Rattle.der_tree.proofs.Exits.{missing_weaker}
use Rattle.der_tree.proofs.Objects.{leaf_content, content_leaf}
use Rattle.der_tree.proofs.OneTree.{same_content}
use Rattle.der_parser.specs.Outcome.{Begins, Reads, ReadsOrWants}
use Rattle.der_parser.specs.Tagged.{IsTagged, HasTagged}
use Rattle.der_parser.specs.Typed.{HoldsByTag, ReadsTagged, ReadsDer}
use Rattle.der_parser.proofs.Elements.{tagged_once}

-- what is read begins with an element
pub reads_element : (n : ℕ) (Holds : Element → Content → Type 0) (octets : List ℕ) → Begins (ReadsTagged n Holds) octets → HasTagged n octets
reads_element n Holds octets p = (p.2.front, p.1, p.2.element, p.2.is, p.2.whole)

-- the tree that an element and what it holds make
pub reads_made : (n : ℕ) (Holds : Element → Content → Type 0) (i front rest : List ℕ) (h : Head) (e : Element) (c : Content) (t : Tree) →
    IsTagged n front e × (h ≡ head_of_element e) × (i ≡ front ++ rest) → Holds e c → t ≡ node h front c → ReadsTagged n Holds i t rest
reads_made n Holds i front rest h e c t found holds same = record {
  front = front;
  element = e;
  content = c;
  is = found.0;
  whole = found.2;
  holds = holds;
  tree = same ∙ ap (λ z. node z front c) found.1;
}

-- if an element begins the octets, what is read of them is read of that element
pub reads_held : (n : ℕ) (Holds : Element → Content → Type 0) (i front rest : List ℕ) (h : Head) (e : Element) →
    IsTagged n front e × (h ≡ head_of_element e) × (i ≡ front ++ rest) → Begins (ReadsTagged n Holds) i → (c : Content) × Holds e c
reads_held n Holds i front rest h e found p =
    let once = tagged_once n n p.2.front front p.1 rest p.2.element e p.2.is found.0 (sym p.2.whole ∙ found.2) in
    (p.2.content, subst (λ f. Holds f p.2.content) once.0 p.2.holds)

-- an element without parts
pub line_of_leaf : (k : ℕ) (e : Element) (c : Content) → HoldsLeaf (as_universal e) c → HoldsByTag k e c
line_of_leaf k e c p = leaf_content k (as_universal e) c p

pub leaf_of_line : (k n : ℕ) (e : Element) (c : Content) → e.tag ≡ n → n ≢ 16 → n ≢ 17 → HoldsByTag k e c → HoldsLeaf (as_universal e) c
leaf_of_line k n e c tag a b p =
    let no_sequence : IsConstructed (as_universal e) 16 → ⊥ = λ q. a (sym tag ∙ q.tag) in
    let no_set : IsConstructed (as_universal e) 17 → ⊥ = λ q. b (sym tag ∙ q.tag) in
    content_leaf k (as_universal e) no_sequence no_set c p

-- one object is read
pub reads_once : (n : ℕ) (octets xs ys : List ℕ) (t u : Tree) → ReadsDer n octets t xs → ReadsDer n octets u ys → (t ≡ u) × (xs ≡ ys)
reads_once n octets xs ys t u p q =
    let once = tagged_once n n p.front q.front xs ys p.element q.element p.is q.is (sym p.whole ∙ q.whole) in
    let contents : p.content ≡ q.content = same_content p.content q.content 49 49 (as_universal p.element) p.holds (subst (λ e. IsContent 49 (as_universal e) q.content) (sym once.0) q.holds) in (
      p.tree ∙ ap (λ e. node (head_of_element e) p.front p.content) once.0 ∙ ap (λ s. node (head_of_element q.element) s p.content) once.1
          ∙ ap (node (head_of_element q.element) q.front) contents ∙ sym q.tree,
      once.2,
    )

-- exits by `?`
pub reads_refused : {X V : Type 0} (see : X → V) (R : List ℕ → V → List ℕ → Type 0) (i : List ℕ) (r : Result (Bor (List ℕ) × X) (Refusal Error)) (e : Refusal Error) →
    IsErrAnd r (λ y. y ≡ e) → (Begins R i → ⊥) × IsMissing (Begins R) i e × TakesNoMemory e → Reads see R i r
reads_refused see R i (Ok x) e is p = absurd is
reads_refused see R i (Err y) e is p = subst (λ z. (Begins R i → ⊥) × IsMissing (Begins R) i z × TakesNoMemory z) (sym is) p

pub wants_refused : {X V : Type 0} (see : X → V) (R : List ℕ → V → List ℕ → Type 0) (i : List ℕ) (r : Result (Bor (List ℕ) × X) (Refusal Error)) (e : Refusal Error) →
    IsErrAnd r (λ y. y ≡ e) → Refuses e (Begins R i → ⊥) × IsMissing (Begins R) i e → ReadsOrWants see R i r
wants_refused see R i (Ok x) e is p = absurd is
wants_refused see R i (Err y) e is p = subst (λ z. Refuses z (Begins R i → ⊥) × IsMissing (Begins R) i z) (sym is) p

-- what isn't there, is not read
pub no_element : (n : ℕ) (Holds : Element → Content → Type 0) (i : List ℕ) (e : Refusal Error) → (HasTagged n i → ⊥) → IsMissing (HasTagged n) i e → TakesNoMemory e →
    (Begins (ReadsTagged n Holds) i → ⊥) × IsMissing (Begins (ReadsTagged n Holds)) i e × TakesNoMemory e
no_element n Holds i e none gone memory =
    (λ p. none (reads_element n Holds i p), missing_weaker e i (HasTagged n) (Begins (ReadsTagged n Holds)) (reads_element n Holds) gone, memory)

pub not_missing : (P : List ℕ → Type 0) (i : List ℕ) (e : Refusal Error) → IsNotCut e → IsMissing P i e
not_missing P i (refusals.Incomplete n) p = absurd p
not_missing P i (refusals.Error e) p = tt
not_missing P i (refusals.Failure e) p = tt
