-- The reader of elements of definite length takes just what the relation says.
use Rattle.std.proofs.Common.{◌≡◌, refl, sym, ◌∙◌, ap, subst, ℕ, List, ◌++◌, length, Ok, Some, append_assoc}
use Rattle.std.specs.Result.{result_ok}
use Rattle.std.specs.Int.Digits.{AllBelowBase}
use Rattle.asn1_core.specs.Strict.{Head, IsHead, strict_header}
use Rattle.asn1_core.specs.Lenient.{SpellsHeader}
use Rattle.asn1_core.specs.Elements.{Element, head_of_element, IsElement, element_octets}
use Rattle.asn1_core.specs.Reading.{header_at}
use Rattle.asn1_core.proofs.StrictLaws.{header_is_lenient}
use Rattle.asn1_any.specs.DerElements.{SpellsElement, BeginsWithElement, element_of}
use Rattle.asn1_any.specs.BerElements.{definite_element, BeginsWithBerElement}
use Rattle.asn1_any.specs.Reading.{part_at, content_at, der_element_at, any_der}
use Rattle.asn1_core.proofs.Cases.{same_answer, two_steps}
use Rattle.asn1_core.proofs.Headers.{BeginsWith, header_found, header_again}
use Rattle.asn1_any.proofs.Readings.{part_found, part_only}

sized : (h : Head) (content : List ℕ) → length content ≡ h.size → h ≡ head_of_element (element_of h content)
sized h content e = ap (λ n. record { class = h.class; constructed = h.constructed; tag = h.tag; size = n }) (sym e)

begins_at : (octets after content rest : List ℕ) (h : Head) → length content ≡ h.size → after ≡ content ++ rest →
    BeginsWith octets h after → BeginsWithElement octets (element_of h content) rest
begins_at octets after content rest h long parts found =
    let same = sized h content long in
    let header = found.front in
    record {
      front = header ++ content;
      spells = record { header = header; in_range = subst IsHead same found.head; spells = subst (SpellsHeader header) same found.spells; whole = refl };
      whole = found.whole ∙ ap (λ z. header ++ z) parts ∙ sym (append_assoc header content rest);
    }

pub der_found : (octets rest : List ℕ) (e : Element) → AllBelowBase 256 octets → der_element_at octets ≡ Ok (e, rest) → BeginsWithElement octets e rest
unfolding der_element_at
der_found octets rest e below read =
    let head = two_steps (header_at octets) content_at (e, rest) read in
    let h = head.0.0 in
    let after = head.0.1 in
    let part = two_steps (part_at h.size after) (λ content tail. Ok (element_of h content, tail)) (e, rest) head.2 in
    let content = part.0.0 in
    let tail = part.0.1 in
    let cut = part_found h.size after content tail part.1 in
    let last = same_answer (element_of h content) e tail rest part.2 in
    let begins = begins_at octets after content tail h cut.0 cut.1 (header_found octets h after below head.1) in
    subst (λ z. BeginsWithElement octets e z) last.1 (subst (λ f. BeginsWithElement octets f tail) last.0 begins)

pub der_only : (octets rest : List ℕ) (e : Element) → BeginsWithElement octets e rest → der_element_at octets ≡ Ok (e, rest)
unfolding der_element_at
der_only octets rest e begins =
    let element = begins.spells in
    let whole : octets ≡ element.header ++ (e.content ++ rest) = begins.whole ∙ ap (λ z. z ++ rest) element.whole ∙ append_assoc element.header e.content rest in
    let read : header_at octets ≡ Ok (head_of_element e, e.content ++ rest) =
    ap header_at whole ∙ header_again element.header (head_of_element e) (e.content ++ rest) element.in_range element.spells in
    rw (read, part_only (length e.content) e.content rest refl) refl

-- one element begins a list
pub der_once : (octets rest after : List ℕ) (e f : Element) → BeginsWithElement octets e rest → BeginsWithElement octets f after → (e ≡ f) × (rest ≡ after)
der_once octets rest after e f left right =
    let read : der_element_at octets ≡ Ok (e, rest) = der_only octets rest e left in
    same_answer e f rest after (sym read ∙ der_only octets after f right)

-- a strict header is one of the spellings
pub strict_spells : (e : Element) → IsElement e → SpellsElement (element_octets e) e
strict_spells e in_range = record { header = strict_header (head_of_element e); in_range = in_range; spells = header_is_lenient (head_of_element e) in_range; whole = refl }

pub strict_begins : (e : Element) (rest : List ℕ) → IsElement e → BeginsWithElement (element_octets e ++ rest) e rest
strict_begins e rest in_range = record { front = element_octets e; spells = strict_spells e in_range; whole = refl }

-- strict octets are read back before any rest
pub any_der_spelled : (e : Element) (rest : List ℕ) → IsElement e → any_der (element_octets e ++ rest) ≡ Some (e, rest)
any_der_spelled e rest in_range = ap result_ok (der_only (element_octets e ++ rest) rest e (strict_begins e rest in_range))

-- an element of definite length is a BER element
pub definite_begins : (levels : ℕ) (octets rest : List ℕ) (e : Element) → BeginsWithElement octets e rest → BeginsWithBerElement levels octets (definite_element e) rest
definite_begins levels octets rest e begins =
    let element = begins.spells in
    let spelled = element.spells in
    let range = element.in_range in
    record {
      front = begins.front;
      spells = record {
        header = element.header;
        body = e.content;
        in_range = record { class = range.class; tag = range.tag; size = range.size };
        spells = record { identifier = spelled.identifier; size = spelled.size; whole = spelled.whole; spells_identifier = spelled.spells_identifier; spells_length = spelled.spells_length };
        closes = (refl, refl);
        whole = element.whole;
      };
      whole = begins.whole;
    }

-- what begins octets begins them with more after them
pub der_stays : (octets rest more : List ℕ) (e : Element) → BeginsWithElement octets e rest → BeginsWithElement (octets ++ more) e (rest ++ more)
der_stays octets rest more e begins =
    record { front = begins.front; spells = begins.spells; whole = ap (λ z. z ++ more) begins.whole ∙ append_assoc begins.front rest more }
