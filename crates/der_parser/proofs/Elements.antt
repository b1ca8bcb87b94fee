-- An element of a tag number at the front of octets.
use Rattle.std.proofs.Common.{◌≡◌, ◌∙◌, sym, ap, subst, refl, ℕ, ◌+◌, ◌-◌, ◌<◌, ◌≤◌, List, ◌++◌, length, take, drop, arith, append_assoc, length-append, length-drop}
use Rattle.std.proofs.lemmas.List.{take-append-drop, length-take-le}
use Rattle.std.proofs.Math.Seq.{take-append-add}
use Rattle.asn1_core.specs.Strict.{Head, IsHead}
use Rattle.asn1_core.specs.Elements.{Element, head_of_element}
use Rattle.asn1_core.specs.Lenient.{SpellsHeader}
use Rattle.asn1_core.specs.Missing.{HasHeader}
use Rattle.asn1_core.proofs.LenientLaws.{one_lenient_header_lem}
use Rattle.asn1_any.specs.DerElements.{SpellsElement}
use Rattle.asn1_any.proofs.DerLaws.{der_once}
use Rattle.der_tree.proofs.Cuts.{element_of}
use Rattle.der_parser.specs.Tagged.{IsTagged, HasTagged}

-- a header begins the octets, and the rest comes after it
abbrev pub HeaderAt : List ℕ → Head → List ℕ → Type 0
HeaderAt i h rest = IsHead h × ((octets : List ℕ) × SpellsHeader octets h × (i ≡ octets ++ rest))

-- an element at the front begins with its header
pub element_front : (n : ℕ) (i s r : List ℕ) (e : Element) (p : IsTagged n s e) → i ≡ s ++ r → i ≡ p.spells.header ++ (e.content ++ r)
element_front n i s r e p q = q ∙ ap (λ z. z ++ r) p.spells.whole ∙ append_assoc p.spells.header e.content r

-- if a header begins a list, what an element at its front has
pub element_head : (n : ℕ) (h : Head) (i rest s r : List ℕ) (e : Element) → HeaderAt i h rest → IsTagged n s e → i ≡ s ++ r → (h ≡ head_of_element e) × (rest ≡ e.content ++ r)
element_head n h i rest s r e p q f =
    let both = one_lenient_header_lem p.1.0 q.spells.header rest (e.content ++ r) h (head_of_element e) p.0 q.spells.in_range p.1.1 q.spells.spells (sym p.1.2 ∙ element_front n i s r e q f) in
    (both.0, both.2)

pub element_size : (n : ℕ) (h : Head) (i rest s r : List ℕ) (e : Element) (size : ℕ) → HeaderAt i h rest → size ≡ h.size → IsTagged n s e → i ≡ s ++ r → size ≤ length rest
element_size n h i rest s r e size p m q f =
    let head = element_head n h i rest s r e p q f in
    let same : size ≡ length e.content = m ∙ ap (λ z. z.size) head.0 in
    let long = length-append e.content r in
    omega (arith, ap length head.1, long)

pub element_tag : (n : ℕ) (h : Head) (i rest s r : List ℕ) (e : Element) → HeaderAt i h rest → IsTagged n s e → i ≡ s ++ r → h.tag ≡ n
element_tag n h i rest s r e p q f = ap (λ z. z.tag) (element_head n h i rest s r e p q f).0 ∙ q.tag_is

-- after a header that wants more octets, no element begins the list with fewer of them
pub element_missing : (n : ℕ) (h : Head) (i rest : List ℕ) (size : ℕ) → HeaderAt i h rest → size ≡ h.size →
    (more : List ℕ) → length more < size - length rest → HasTagged n (i ++ more) → ⊥
element_missing n h i rest size p m more few has =
    let longer : i ++ more ≡ p.1.0 ++ (rest ++ more) = ap (λ z. z ++ more) p.1.2 ∙ append_assoc p.1.0 rest more in
    let fits = element_size n h (i ++ more) (rest ++ more) has.0 has.1 has.2 size (p.0, (p.1.0, p.1.1, longer)) m has.3 has.4 in
    omega (arith, fits, length-append rest more)

-- an element begins with a header
pub tagged_header : (n : ℕ) (s : List ℕ) → HasTagged n s → HasHeader s
tagged_header n s p = (head_of_element p.2, p.3.spells.header, p.2.content ++ p.1, p.3.spells.in_range, p.3.spells.spells, element_front n s p.0 p.1 p.2 p.3 p.4)

-- the element that a header and its octets make
pub element_read : (n : ℕ) (h : Head) (i rest inner after : List ℕ) (size : ℕ) → HeaderAt i h rest → h.tag ≡ n → size ≡ h.size → size ≤ length rest →
    inner ≡ take size rest → after ≡ drop size rest →
    IsTagged n (take (length i - length after) i) (element_of h inner) × (h ≡ head_of_element (element_of h inner)) × (i ≡ take (length i - length after) i ++ after)
element_read n h i rest inner after size p t m le front back =
    let octets = p.1.0 in
    let long : length inner ≡ size = ap length front ∙ length-take-le size rest le in
    let head : h ≡ head_of_element (element_of h inner) = ap (λ z. record { class = h.class; constructed = h.constructed; tag = h.tag; size = z }) (sym m ∙ sym long) in
    let cut : length i - length after ≡ length octets + size =
    omega (arith, ap length p.1.2, length-append octets rest, ap length back ∙ length-drop size rest) in
    let raw : take (length i - length after) i ≡ octets ++ inner =
    rw cut (ap (take (length octets + size)) p.1.2 ∙ take-append-add octets rest size) ∙ ap (λ z. octets ++ z) (sym front) in
    let split : rest ≡ inner ++ after = sym (take-append-drop size rest) ∙ ap (λ z. z ++ drop size rest) (sym front) ∙ ap (λ z. inner ++ z) (sym back) in
    let is : SpellsElement (take (length i - length after) i) (element_of h inner) = record {
      header = octets;
      in_range = subst IsHead head p.0;
      spells = subst (SpellsHeader octets) head p.1.1;
      whole = raw;
    } in
    (record { spells = is; tag_is = t }, head, p.1.2 ∙ ap (λ z. octets ++ z) split ∙ sym (append_assoc octets inner after) ∙ ap (λ z. z ++ after) (sym raw))

-- one element begins a list
pub tagged_once : (n m : ℕ) (s u x y : List ℕ) (e f : Element) → IsTagged n s e → IsTagged m u f → s ++ x ≡ u ++ y → (e ≡ f) × (s ≡ u) × (x ≡ y)
tagged_once n m s u x y e f p q same =
    let split : p.spells.header ++ (e.content ++ x) ≡ q.spells.header ++ (f.content ++ y) = sym (element_front n (s ++ x) s x e p refl) ∙ element_front m (s ++ x) u y f q same in
    let heads = one_lenient_header_lem p.spells.header q.spells.header (e.content ++ x) (f.content ++ y) (head_of_element e) (head_of_element f) p.spells.in_range q.spells.in_range p.spells.spells q.spells.spells split in
    let once = der_once (s ++ x) x y e f (record { front = s; spells = p.spells; whole = refl }) (record { front = u; spells = q.spells; whole = same }) in
    let fronts : s ≡ u = p.spells.whole ∙ ap (λ z. z ++ e.content) heads.1 ∙ ap (λ (z : Element). q.spells.header ++ z.content) once.0 ∙ sym q.spells.whole in
    (once.0, fronts, once.1)
