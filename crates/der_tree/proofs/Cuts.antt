-- One element begins a list of octets.
use Rattle.std.proofs.Common.{◌≡◌, ◌∙◌, sym, ap, ℕ, ◌<◌, List, [], ◌∷◌, ◌++◌, Bool, true, false, length, arith, nat_lt, if◌then◌else◌, length-append, ◌-◌, ◌≤◌, ◌+◌, take, drop, subst, append_assoc, length-drop}
use Rattle.std.proofs.lemmas.List.{take-append-drop, length-take-le}
use Rattle.std.proofs.Math.Seq.{take-append-add}
use Rattle.asn1_core.specs.Strict.{Head, IsHead, strict_header, lead, strict_identifier, strict_length}
use Rattle.asn1_core.specs.Digits.{continued}
use Rattle.std.specs.Int.Digits.{digits_of}
use Rattle.asn1_core.specs.Elements.{Element, head_of_element, element_octets}
use Rattle.asn1_core.proofs.StrictLaws.{one_element_lem, one_header_lem}
use Rattle.asn1_core.specs.Missing.{HasStrictHeader}
use Rattle.der_tree.specs.Object.{IsCut, HasCut}

-- what a header and a content make
abbrev pub element_of : Head → List ℕ → Element
element_of h s = record { class = h.class; constructed = h.constructed; tag = h.tag; content = s }

-- one cut begins a list
pub cut_once : (s u : List ℕ) (e f : Element) (x y : List ℕ) → IsCut s e → IsCut u f → s ++ x ≡ u ++ y → (e ≡ f) × (s ≡ u) × (x ≡ y)
cut_once s u e f x y p q same =
    let both = one_element_lem e f x y p.in_range q.in_range (ap (λ z. z ++ x) (sym p.octets) ∙ same ∙ ap (λ z. z ++ y) q.octets) in
    (both.0, p.octets ∙ ap element_octets both.0 ∙ sym q.octets, both.1)

one_long : (b : Bool) (x y : ℕ) (ys : List ℕ) → 0 < length (if b then x ∷ [] else y ∷ ys)
one_long true x y ys = omega arith
one_long false x y ys = omega arith

-- a header is at least one octet
pub header_long : (h : Head) → 0 < length (strict_header h)
header_long h =
    let split = length-append (strict_identifier h.class h.constructed h.tag) (strict_length h.size) in
    omega (arith, split, one_long (nat_lt h.tag 31) (lead h.class h.constructed h.tag) (lead h.class h.constructed 31) (continued (digits_of 128 h.tag)))

pub cut_long : (s : List ℕ) (e : Element) → IsCut s e → 0 < length s
cut_long s e p =
    let n = length-append (strict_header (head_of_element e)) e.content in
    omega (arith, ap length p.octets, n, header_long (head_of_element e))

pub no_element : (e : Element) (r : List ℕ) → [] ≡ element_octets e ++ r → ⊥
no_element e r same =
    let n = length-append (strict_header (head_of_element e)) e.content in
    let m = length-append (element_octets e) r in
    omega (arith, ap length same, n, m, header_long (head_of_element e))

-- a cut at the front begins with its header

pub cut_front : (i s r : List ℕ) (e : Element) → IsCut s e → i ≡ s ++ r → i ≡ strict_header (head_of_element e) ++ (e.content ++ r)
cut_front i s r e p q = q ∙ ap (λ z. z ++ r) p.octets ∙ append_assoc (strict_header (head_of_element e)) e.content r

-- if a header begins a list, what a cut at its front has
pub cut_under : (h : Head) (i rest s r : List ℕ) (e : Element) → IsHead h × (i ≡ strict_header h ++ rest) → IsCut s e → i ≡ s ++ r → (h ≡ head_of_element e) × (rest ≡ e.content ++ r)
cut_under h i rest s r e p q f = one_header_lem h (head_of_element e) rest (e.content ++ r) p.0 q.in_range (sym p.1 ∙ cut_front i s r e q f)

pub cut_size : (h : Head) (i rest s r : List ℕ) (e : Element) (size : ℕ) → IsHead h × (i ≡ strict_header h ++ rest) → size ≡ h.size → IsCut s e → i ≡ s ++ r → (size ≤ 4_294_967_295) × (size ≤ length rest)
cut_size h i rest s r e size p n q f =
    let m = cut_under h i rest s r e p q f in
    let same : size ≡ length e.content = n ∙ ap (λ z. z.size) m.0 in
    let long = length-append e.content r in
    (omega (arith, q.size), omega (arith, ap length m.1, long))

-- after a header that wants more octets, no cut begins the list with fewer of them
pub cut_missing : (h : Head) (i rest : List ℕ) (size : ℕ) → IsHead h × (i ≡ strict_header h ++ rest) → size ≡ h.size →
    (more : List ℕ) → length more < size - length rest → HasCut (i ++ more) → ⊥
cut_missing h i rest size p n more few has =
    let longer : i ++ more ≡ strict_header h ++ (rest ++ more) = ap (λ z. z ++ more) p.1 ∙ append_assoc (strict_header h) rest more in
    let m = cut_size h (i ++ more) (rest ++ more) has.0 has.1 has.2 size (p.0, longer) n has.3 has.4 in
    omega (arith, m.1, length-append rest more)

-- the cut that a header and its octets make
pub cut_read : (h : Head) (i rest inner after : List ℕ) (size : ℕ) → IsHead h × (i ≡ strict_header h ++ rest) → size ≡ h.size → size ≤ 4_294_967_295 → size ≤ length rest →
    inner ≡ take size rest → after ≡ drop size rest →
    IsCut (take (length i - length after) i) (element_of h inner) × (h ≡ head_of_element (element_of h inner)) × (i ≡ take (length i - length after) i ++ after)
cut_read h i rest inner after size p n small le front back =
    let long : length inner ≡ size = ap length front ∙ length-take-le size rest le in
    let head : h ≡ head_of_element (element_of h inner) = ap (λ z. record { class = h.class; constructed = h.constructed; tag = h.tag; size = z }) (sym n ∙ sym long) in
    let cut : length i - length after ≡ length (strict_header h) + size =
    omega (arith, ap length p.1, length-append (strict_header h) rest, ap length back ∙ length-drop size rest) in
    let raw : take (length i - length after) i ≡ strict_header h ++ inner =
    rw cut (ap (take (length (strict_header h) + size)) p.1 ∙ take-append-add (strict_header h) rest size) ∙ ap (λ z. strict_header h ++ z) (sym front) in
    let split : rest ≡ inner ++ after = sym (take-append-drop size rest) ∙ ap (λ z. z ++ drop size rest) (sym front) ∙ ap (λ z. inner ++ z) (sym back) in
    let is : IsCut (take (length i - length after) i) (element_of h inner) = record {
      in_range = subst IsHead head p.0;
      size = omega (arith, long);
      octets = raw ∙ ap (λ z. strict_header z ++ inner) head;
    } in
    (is, head, p.1 ∙ ap (λ z. strict_header h ++ z) split ∙ sym (append_assoc (strict_header h) inner after) ∙ ap (λ z. z ++ after) (sym raw))

-- what is cut off holds less than the whole
pub cut_within : (i s r : List ℕ) (e : Element) → IsCut s e → i ≡ s ++ r → length e.content < length i
cut_within i s r e p q =
    let whole = ap length q ∙ length-append s r in
    let parts = ap length p.octets ∙ length-append (strict_header (head_of_element e)) e.content in
    omega (arith, whole, parts, header_long (head_of_element e))

pub cut_header : (s : List ℕ) → HasCut s → HasStrictHeader s
cut_header s p = (head_of_element p.2, p.2.content ++ p.1, p.3.in_range, cut_front s p.0 p.1 p.2 p.3 p.4)
