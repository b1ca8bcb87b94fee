-- What the steps of the reader keep.
use Rattle.std.proofs.Common.{◌≡◌, ◌∙◌, sym, ap, refl, subst, ℕ, ◌-◌, ◌<◌, ◌≤◌, Option, Some, None, IfSome, List, [], ◌∷◌, ◌++◌, append_assoc, length, take}
use Rattle.std.proofs.lemmas.List.{append-nil}
use Rattle.asn1_core.specs.Views.{head_of, ber_head_of, size_of, definite_size}
use Rattle.asn1_core.specs.declared.header.Header.{Header}
use Rattle.asn1_core.specs.declared.length.Length.{Length}
use Rattle.asn1_core.specs.declared.length.Length.TheVariants.{Definite, Indefinite}
use Rattle.asn1_any.specs.BerElements.{BerElement, Closes, SpellsBer, IsWithin, BeginsWithBerElement, element_of_ber}
use Rattle.asn1_any.proofs.BerReading.{ber_once}
use Rattle.asn1_any.proofs.Cuts.{front_is}
use Rattle.der_tree.specs.declared.object.BerObject.{BerObject}
use Rattle.der_tree.specs.Tree.{Tree, node, Content, leaf, sequence, set, octets, all_octets}
use Rattle.der_tree.specs.Access.{content_in}
use Rattle.der_tree.specs.View.{view, views}
use Rattle.ber_tree.specs.Object.{told, head_in, Ends, IsBerCut, IsDelimited, IsEnded, IsBerObject, IsBerContent, AreBerObjects, BeginsWithBerObject}
use Rattle.ber_tree.proofs.Objects.{object_parts, object_made, object_begins}

told_size : (l : Length) → size_of l ≡ told (definite_size l)
told_size (Definite n) = refl
told_size Indefinite = refl

pub head_told : (h : Header) → head_of h ≡ head_in (ber_head_of h)
head_told h = ap (λ z. record { class = (ber_head_of h).class; constructed = h.constructed; tag = (ber_head_of h).tag; size = z }) (told_size h.length)

ends_by : (k : ℕ) (size : Option ℕ) (content body : List ℕ) → Closes (IsWithin k) size content body → Ends size content body
ends_by k (Some n) content body closes = closes
ends_by k None content body closes = closes.1

delimited_by : (k : ℕ) (size : Option ℕ) (content body : List ℕ) → Closes (IsWithin k) size content body → IsDelimited k size content
delimited_by k (Some n) content body closes = tt
delimited_by k None content body closes = closes.0

pub ended_by : (k : ℕ) (s : List ℕ) (e : BerElement) (c : Content) → SpellsBer (IsWithin k) s e → IsEnded k e c
ended_by k s e (leaf v) p = delimited_by k e.head.size e.content p.body p.closes
ended_by k s e (sequence ts) p = tt
ended_by k s e (set ts) p = tt

pub cut_by : (k : ℕ) (s : List ℕ) (e : BerElement) → SpellsBer (IsWithin k) s e → IfSome e.head.size (λ n. n ≤ 4_294_967_295) → IsBerCut s e
cut_by k s e p small = record { header = p.header; body = p.body; in_range = p.in_range; small = small; spells = p.spells; ends = ends_by k e.head.size e.content p.body p.closes; octets = p.whole }

-- if an element begins the octets, what an object there is
pub object_there : (k : ℕ) (i r : List ℕ) (e : BerElement) → BeginsWithBerElement (k - 1) i e r → BeginsWithBerObject k i →
    IfSome e.head.size (λ n. n ≤ 4_294_967_295) × ((c : Content) × IsBerContent (k - 1) (element_of_ber e) c)
object_there k i r e begins p =
    let m = object_parts k p.0 p.2 in
    let once = ber_once (k - 1) i p.1 r m.element e (object_begins k p.0 i p.1 m p.3) begins in (
      subst (λ z. IfSome z (λ n. n ≤ 4_294_967_295)) (ap (λ (z : BerElement). z.head.size) once.0) m.cut.small,
      (content_in p.0, subst (λ f. IsBerContent (k - 1) (element_of_ber f) (content_in p.0)) once.0 m.content),
    )

-- the object that an element and what it holds make
pub object_read : (k : ℕ) (i after raw : List ℕ) (t : Tree) (h : Header) (e : BerElement) (c : Content) → 0 < k → BeginsWithBerElement (k - 1) i e after → e.head ≡ ber_head_of h →
    raw ≡ take (length i - length after) i → t ≡ node (head_of h) raw c → IfSome e.head.size (λ n. n ≤ 4_294_967_295) → IsBerContent (k - 1) (element_of_ber e) c →
    IsBerObject k t × (i ≡ octets t ++ after)
object_read k i after raw t h e c lt begins head front is small holds =
    let whole : raw ≡ begins.front = front ∙ front_is i begins.front after begins.whole in
    let spells : SpellsBer (IsWithin (k - 1)) raw e = subst (λ s. SpellsBer (IsWithin (k - 1)) s e) (sym whole) begins.spells in
    let made = object_made k e raw c lt (cut_by (k - 1) raw e spells small) (ended_by (k - 1) raw e c spells) holds in
    let same : t ≡ node (head_in e.head) raw c = is ∙ ap (λ z. node z raw c) (head_told h ∙ ap head_in (sym head)) in
    (subst (IsBerObject k) (sym same) made, begins.whole ∙ ap (λ z. z ++ after) (sym (ap octets is ∙ whole)))

pub views_push : (os : List BerObject) (o : BerObject) → all_octets (views (os ++ o ∷ [])) ≡ all_octets (views os) ++ octets (view o)
views_push [] o = append-nil (octets (view o))
views_push (x ∷ os) o = ap (λ s. octets (view x) ++ s) (views_push os o) ∙ sym (append_assoc (octets (view x)) (all_octets (views os)) (octets (view o)))

pub objects_push : (k : ℕ) (os : List BerObject) (o : BerObject) → AreBerObjects k (views os) → IsBerObject k (view o) → AreBerObjects k (views (os ++ o ∷ []))
unfolding AreBerObjects
objects_push k [] o p q = (q, tt)
objects_push k (x ∷ os) o p q = (p.0, objects_push k os o p.1 q)
