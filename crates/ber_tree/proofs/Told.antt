-- The lengths that headers tell.
use Rattle.std.proofs.Common.{◌≡◌, ◌∙◌, sym, ap, refl, ℕ, zero, suc, ◌-◌, ◌<◌, ◌==◌, ◌&&◌, nat_lt, if◌then◌else◌, false, le-ltb, List, [], ◌∷◌, ◌++◌, length, take, drop, Ok, Err, Some, arith}
use Rattle.asn1_core.specs.Answers.{Answer, then_read}
use Rattle.asn1_core.specs.Elements.{Element}
use Rattle.asn1_core.specs.Lenient.{BerHead}
use Rattle.asn1_core.specs.Reading.{identity_at, length_at, ber_header_at}
use Rattle.asn1_core.specs.Views.{ber_head_of, length_of, definite_size}
use Rattle.asn1_core.specs.declared.header.Header.{Header}
use Rattle.asn1_core.specs.declared.length.Length.{Length}
use Rattle.asn1_core.specs.declared.length.Length.TheVariants.{Definite, Indefinite}
use Rattle.asn1_core.proofs.Headers.{ber_header_again}
use Rattle.asn1_any.specs.BerElements.{BerElement, BeginsWithBerElement, end_of_contents}
use Rattle.asn1_any.specs.Reading.{part_at, ber_element_at, ber_content_at, ber_levels_at}
use Rattle.asn1_any.proofs.Cuts.{front_is}
use Rattle.der_tree.specs.declared.object.BerObject.{BerObject}
use Rattle.der_tree.specs.declared.object.BerObjectContent.{BerObjectContent, fold-roll-BerObjectContent}
use Rattle.der_tree.specs.declared.object.BerObjectContent.TheOpen.{BerObjectContent-F}
use Rattle.der_tree.specs.declared.object.BerObjectContent.TheVariants.{EndOfContent, rolls-EndOfContent}
use Rattle.der_tree.specs.Lengths.{content_step, object_step, lengths_told, lengths_within, lengths_read, lengths_held, HoldsOne}
use Rattle.der_tree.specs.Tree.{Content, leaf, sequence, set}
use Rattle.der_tree.specs.View.{view}
use Rattle.ber_tree.specs.Lengths.{form_of, read_form, ber_length, TellsAsRead}
use Rattle.ber_tree.specs.Object.{end_tree}
use Rattle.ber_tree.specs.Table.{HoldsBerLeaf}

form_again : (l : Length) → l ≡ form_of (definite_size l)
form_again (Definite n) = refl
form_again Indefinite = refl

-- a header that was read gives the length at the front of its element's octets
pub read_told : (h : Header) (k : ℕ) (i after raw : List ℕ) (e : BerElement) → BeginsWithBerElement k i e after → e.head ≡ ber_head_of h → raw ≡ take (length i - length after) i → length_of h ≡ read_form (ber_header_at raw)
read_told h k i after raw e begins head front =
    let spells = begins.spells in
    let whole : raw ≡ spells.header ++ spells.body = front ∙ front_is i begins.front after begins.whole ∙ spells.whole in
    let again : ber_header_at (spells.header ++ spells.body) ≡ Ok (e.head, spells.body) = ber_header_again spells.header e.head spells.body spells.in_range spells.spells in
    form_again (length_of h) ∙ ap (λ (z : BerHead). form_of z.size) (sym head) ∙ sym (ap read_form (ap ber_header_at whole ∙ again))

-- a content without parts
pub held_leaf : (own : _ → _ → Length) (l : Length) (e : Element) (c : BerObjectContent) (d : Content) → HoldsBerLeaf e d → HoldsOne l c d → lengths_within c ≡ lengths_held own l d
held_leaf own l e c (leaf v) p q = q
held_leaf own l e c (sequence ts) p q = absurd p
held_leaf own l e c (set ts) p q = absurd p

-- end-of-contents octets are an element of no octets at any level

abbrev pub zero_head : BerHead
zero_head = record { class = 0; constructed = false; tag = 0; size = Some 0 }

zero_header : (y : List ℕ) → ber_header_at (end_of_contents ++ y) ≡ Ok (zero_head, y)
unfolding ber_header_at identity_at length_at
zero_header y = refl

zero_content : (k : ℕ) (y : List ℕ) → ber_content_at k zero_head y ≡ Ok (record { head = zero_head; content = take 0 y }, drop 0 y)
zero_content k y = let short : nat_lt (length y) 0 ≡ false = le-ltb (length y) 0 (omega arith) in rw short refl

end_element_read : (k : ℕ) (y : List ℕ) → ber_element_at k (end_of_contents ++ y) ≡ Ok (record { head = zero_head; content = take 0 y }, drop 0 y)
unfolding ber_element_at
end_element_read k y = ap (λ a. then_read a (ber_content_at k)) (zero_header y) ∙ zero_content k y

pub in_end : lengths_within EndOfContent ≡ []
in_end = ap lengths_within (sym rolls-EndOfContent) ∙ fold-roll-BerObjectContent (List Length) (List Length) content_step object_step BerObjectContent-F.EndOfContent

pub end_told : (o : BerObject) → view o ≡ end_tree → lengths_told o ≡ Definite 0 ∷ [] → TellsAsRead o
end_told o is told =
    let read : lengths_read ber_length end_tree ≡ Definite 0 ∷ [] = ap (λ a. read_form a ∷ []) (zero_header []) in
    told ∙ sym read ∙ sym (ap (lengths_read ber_length) is)

pub levels_read : (k : ℕ) (i y : List ℕ) → 0 < k → i ≡ end_of_contents ++ y → (p : BerElement × List ℕ) × (ber_levels_at k i ≡ Ok p)
levels_read zero i y lt whole = absurd (omega (arith, lt))
levels_read (suc k) i y lt whole = (_, ap (ber_element_at k) whole ∙ end_element_read k y)
