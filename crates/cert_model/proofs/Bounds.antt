-- The octets of an object are few enough for each part of them to have a header.
use Rattle.std.proofs.Common.{◌≡◌, ◌∙◌, sym, ap, refl, ℕ, ◌+◌, ◌^◌, ◌<◌, ◌≤◌, List, [], ◌∷◌, ◌++◌, Bool, true, false, suc, length, arith, length-append, nat_lt, if◌then◌else◌, lit≤}
use Rattle.std.proofs.lemmas.List.{append-nil}
use Rattle.std.specs.Int.Digits.{digits_of}
use Rattle.std.proofs.lemmas.Int.Digits.{length-digits_of-le}
use Rattle.asn1_core.specs.Digits.{continued}
use Rattle.asn1_core.specs.Strict.{Head, IsHead, strict_identifier, strict_length, strict_header, lead}
use Rattle.asn1_core.specs.Elements.{Element, IsElement, head_of_element, element_octets}
use Rattle.der_tree.specs.Object.{IsCut}
use Rattle.der_tree.specs.Tree.{Tree, octets}
use Rattle.der_tree.specs.Shape.{IsObject}
use Rattle.der_tree.proofs.Objects.{object_parts}

length-continued : (ds : List ℕ) → length (continued ds) ≡ length ds
length-continued [] = refl
length-continued (d ∷ []) = refl
length-continued (d ∷ e ∷ ds) = ap suc (length-continued (e ∷ ds))

one_of : (b : Bool) (x y : ℕ) (ys : List ℕ) (n : ℕ) → length ys ≤ n → length (if b then x ∷ [] else y ∷ ys) ≤ n + 1
one_of true x y ys n le = omega arith
one_of false x y ys n le = omega arith

header_short : (h : Head) → IsHead h → length (strict_header h) ≤ 15
header_short h p =
    let tag : length (digits_of 128 h.tag) ≤ 5 = length-digits_of-le 128 5 h.tag (lit≤ tt) (omega (arith, p.tag)) in
    let size : length (digits_of 256 h.size) ≤ 8 = length-digits_of-le 256 8 h.size (lit≤ tt) (omega (arith, p.size)) in
    let first = one_of (nat_lt h.tag 31) (lead h.class h.constructed h.tag) (lead h.class h.constructed 31) (continued (digits_of 128 h.tag)) 5 (omega (arith, length-continued (digits_of 128 h.tag), tag)) in
    let second = one_of (nat_lt h.size 128) h.size (128 + length (digits_of 256 h.size)) (digits_of 256 h.size) 8 size in
    omega (arith, length-append (strict_identifier h.class h.constructed h.tag) (strict_length h.size), first, second)

-- short enough for the length of each part to be written
abbrev pub IsShort : List ℕ → Type 0
IsShort s = length s < 2 ^ 40

pub cut_short : (s : List ℕ) (e : Element) → IsCut s e → IsShort s
cut_short s e p =
    let head = header_short (head_of_element e) p.in_range in
    omega (arith, ap length p.octets, length-append (strict_header (head_of_element e)) e.content, head, p.size)

pub object_short : (k : ℕ) (t : Tree) → IsObject k t → IsShort (octets t)
object_short k t p = let m = object_parts k t p in cut_short (octets t) m.element m.cut

-- an element that is part of few octets has a header
pub element_in : (e : Element) (before after s : List ℕ) → e.class < 4 → e.tag < 2 ^ 32 → s ≡ before ++ (element_octets e ++ after) → IsShort s → IsElement e × IsShort e.content
element_in e before after s class tag is short =
    let a = length-append before (element_octets e ++ after) in
    let b = length-append (element_octets e) after in
    let c = length-append (strict_header (head_of_element e)) e.content in
    let small : length e.content < 2 ^ 40 = omega (arith, a, b, c, ap length is, short) in
    (record { class = class; tag = tag; size = omega (arith, small) }, small)

-- an element that is all of an object has a header
pub whole_in : (k : ℕ) (t : Tree) (e : Element) → IsObject k t → e.class < 4 → e.tag < 2 ^ 32 → element_octets e ≡ octets t → IsElement e
whole_in k t e p class tag is = (element_in e [] [] (octets t) class tag (sym is ∙ sym (append-nil (element_octets e))) (object_short k t p)).0
