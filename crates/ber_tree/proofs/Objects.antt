-- Laws of BER objects and of the fronts of lists that are objects.
use Rattle.std.proofs.Common.{◌≡◌, ◌≢◌, ◌∙◌, sym, ap, refl, subst, ℕ, zero, suc, ◌-◌, ◌<◌, Option, Some, None, Ok, List, [], ◌∷◌, ◌++◌, false, length, arith, length-append, append_assoc}
use Rattle.std.proofs.lemmas.List.{append_cancel_right}
use Rattle.asn1_core.specs.Lenient.{BerHead}
use Rattle.asn1_core.specs.Reading.{identity_at, length_at, ber_header_at}
use Rattle.asn1_core.proofs.Cases.{same_answer}
use Rattle.asn1_core.proofs.Headers.{ber_header_again}
use Rattle.asn1_any.specs.BerElements.{BerElement, AreAll, Closes, SpellsBer, IsWithin, end_of_contents, BeginsWithBerElement, HasBerElement, element_of_ber}
use Rattle.asn1_core.proofs.Long.{header_long}
use Rattle.asn1_any.proofs.BerReading.{ber_once}
use Rattle.der_tree.specs.Tree.{Tree, node, Content, leaf, sequence, set, Trees, none, more, octets, all_octets}
use Rattle.der_tree.specs.Access.{content_in}
use Rattle.ber_tree.specs.Object.{Ends, head_in, IsBerCut, IsDelimited, IsEnded, IsBerObject, IsBerContent, AreBerObjects, BeginsWithBerObject}
use Rattle.ber_tree.proofs.Leaves.{content_zero}

-- an object's element, and what it holds
pub record Parts (k : ℕ) (t : Tree) : Type 0 where
  pub element : BerElement
  pub level : 0 < k
  pub cut : IsBerCut (octets t) element
  pub ended : IsEnded (k - 1) element (content_in t)
  pub content : IsBerContent (k - 1) (element_of_ber element) (content_in t)

pub object_parts : (k : ℕ) (t : Tree) → IsBerObject k t → Parts k t
unfolding IsBerObject
object_parts k (node h s c) p = record { element = p.1; level = p.0; cut = p.3; ended = p.4; content = p.5 }

pub object_made : (k : ℕ) (e : BerElement) (s : List ℕ) (c : Content) → 0 < k → IsBerCut s e → IsEnded (k - 1) e c → IsBerContent (k - 1) (element_of_ber e) c →
    IsBerObject k (node (head_in e.head) s c)
unfolding IsBerObject
object_made k e s c lt p q r = (lt, e, refl, p, q, r)

zero_header : (y : List ℕ) → ber_header_at (end_of_contents ++ y) ≡ Ok (record { class = 0; constructed = false; tag = 0; size = Some 0 }, y)
unfolding ber_header_at identity_at length_at
zero_header y = refl

-- no object begins with end-of-contents octets
end_front : (k : ℕ) (s x y : List ℕ) (e : BerElement) (c : Content) → IsBerCut s e → IsBerContent k (element_of_ber e) c → s ++ x ≡ end_of_contents ++ y → ⊥
end_front k s x y e c cut holds same =
    let split : s ++ x ≡ cut.header ++ (cut.body ++ x) = ap (λ z. z ++ x) cut.octets ∙ append_assoc cut.header cut.body x in
    let again : ber_header_at (cut.header ++ (cut.body ++ x)) ≡ Ok (e.head, cut.body ++ x) = ber_header_again cut.header e.head (cut.body ++ x) cut.in_range cut.spells in
    let said = same_answer e.head (let z : BerHead = record { class = 0; constructed = false; tag = 0; size = Some 0 } in z) (cut.body ++ x) y (sym again ∙ ap ber_header_at (sym split ∙ same) ∙ zero_header y) in
    content_zero k (element_of_ber e) c holds (ap (λ h. h.class) said.0) (ap (λ h. h.tag) said.0)

no_end : (k : ℕ) (s : List ℕ) (e : BerElement) (c : Content) → IsBerCut s e → IsBerContent k (element_of_ber e) c → s ≢ end_of_contents
no_end k s e c cut holds same = end_front k s [] [] e c cut holds (ap (λ z. z ++ []) same)

pub object_no_end : (k : ℕ) (t : Tree) (x y : List ℕ) → IsBerObject k t → octets t ++ x ≡ end_of_contents ++ y → ⊥
object_no_end k t x y p same = let m = object_parts k t p in end_front (k - 1) (octets t) x y m.element (content_in t) m.cut m.content same

closes_by : (k : ℕ) (size : Option ℕ) (content body : List ℕ) → Ends size content body → (size ≡ None → AreAll (IsWithin k) content) → Closes (IsWithin k) size content body
closes_by k (Some n) content body ends all = ends
closes_by k None content body ends all = (all refl, ends)

spells_by : (k : ℕ) (s : List ℕ) (e : BerElement) → IsBerCut s e → (e.head.size ≡ None → AreAll (IsWithin k) e.content) → SpellsBer (IsWithin k) s e
spells_by k s e cut all = record {
  header = cut.header;
  body = cut.body;
  in_range = cut.in_range;
  spells = cut.spells;
  closes = closes_by k e.head.size e.content cut.body cut.ends all;
  whole = cut.octets;
}

-- an object is an element as the walk over indefinite contents sees it

mutual
  unfolding IsBerObject IsBerContent AreBerObjects IsWithin

  content_within : (c : Content) (k : ℕ) (e : BerElement) → IsEnded k e c → IsBerContent k (element_of_ber e) c → e.head.size ≡ None → AreAll (IsWithin k) e.content
  content_within (leaf v) k e ended holds is = subst (λ z. IsDelimited k z e.content) is ended
  content_within (sequence ts) k e ended holds is = subst (AreAll (IsWithin k)) (sym holds.1) (all_within ts k holds.2)
  content_within (set ts) k e ended holds is = subst (AreAll (IsWithin k)) (sym holds.1) (all_within ts k holds.2)

  all_within : (ts : Trees) (k : ℕ) → AreBerObjects k ts → AreAll (IsWithin k) (all_octets ts)
  all_within none k p = record { pieces = []; each = tt; whole = refl }
  all_within (more t ts) k p =
      let m = all_within ts k p.1 in
      record { pieces = octets t ∷ m.pieces; each = (object_within t k p.0, m.each); whole = ap (λ z. octets t ++ z) m.whole }

  object_within : (t : Tree) (k : ℕ) → IsBerObject k t → IsWithin k (octets t)
  object_within (node h s c) zero p = absurd (omega (arith, p.0))
  object_within (node h s c) (suc k) p =
      let e : suc k - 1 ≡ k = omega arith in
      let holds : IsBerContent k (element_of_ber p.1) c = subst (λ j. IsBerContent j (element_of_ber p.1) c) e p.5 in
      let ended : IsEnded k p.1 c = subst (λ j. IsEnded j p.1 c) e p.4 in
      (no_end k s p.1 c p.3 holds, (p.1, spells_by k s p.1 p.3 (content_within c k p.1 ended holds)))

-- an object begins octets as its element
pub object_begins : (k : ℕ) (t : Tree) (i r : List ℕ) (p : Parts k t) → i ≡ octets t ++ r → BeginsWithBerElement (k - 1) i p.element r
object_begins k t i r p whole = record { front = octets t; spells = spells_by (k - 1) (octets t) p.element p.cut (content_within (content_in t) (k - 1) p.element p.ended p.content); whole = whole }

pub object_element : (k : ℕ) (i : List ℕ) → BeginsWithBerObject k i → (0 < k) × HasBerElement (k - 1) i
object_element k i p =
    let m = object_parts k p.0 p.2 in
    (m.level, (m.element, p.1, object_begins k p.0 i p.1 m p.3))

pub cut_long : (s : List ℕ) (e : BerElement) → IsBerCut s e → 0 < length s
cut_long s e p = omega (arith, ap length p.octets, length-append p.header p.body, header_long p.header e.head p.spells)

pub object_long : (k : ℕ) (t : Tree) → IsBerObject k t → 0 < length (octets t)
object_long k t p = let m = object_parts k t p in cut_long (octets t) m.element m.cut

-- one object begins a list
pub record Once (t u : Tree) (e f : BerElement) (x y : List ℕ) : Type 0 where
  pub elements : e ≡ f
  pub fronts : octets t ≡ octets u
  pub rests : x ≡ y

pub object_once : (k : ℕ) (t u : Tree) (x y : List ℕ) (p : Parts k t) (q : Parts k u) → octets t ++ x ≡ octets u ++ y → Once t u p.element q.element x y
object_once k t u x y p q e =
    let once = ber_once (k - 1) (octets t ++ x) x y p.element q.element (object_begins k t (octets t ++ x) x p refl) (object_begins k u (octets t ++ x) y q e) in
    record { elements = once.0; rests = once.1; fronts = append_cancel_right (octets t) (octets u) x (e ∙ ap (λ z. octets u ++ z) (sym once.1)) }

-- one step through objects to the end
pub objects_step : (k : ℕ) (us : Trees) (rest after : List ℕ) (t : Tree) → 0 < length rest → IsBerObject k t → rest ≡ octets t ++ after →
    AreBerObjects k us → rest ≡ all_octets us → (ws : Trees) × AreBerObjects k ws × (after ≡ all_octets ws)
unfolding AreBerObjects
objects_step k none rest after t lt p e q f = absurd (omega (arith, ap length f))
objects_step k (more u us) rest after t lt p e q f = (us, q.1, (object_once k t u after (all_octets us) (object_parts k t p) (object_parts k u q.0) (sym e ∙ f)).rests)

-- objects to the end begin with one
pub objects_first : (k : ℕ) (us : Trees) (rest : List ℕ) → 0 < length rest → AreBerObjects k us → rest ≡ all_octets us → BeginsWithBerObject k rest
unfolding AreBerObjects
objects_first k none rest lt q f = absurd (omega (arith, ap length f))
objects_first k (more u us) rest lt q f = (u, all_octets us, q.0, f)
