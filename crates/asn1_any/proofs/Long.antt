-- An element takes two octets more than its content.
use Rattle.std.proofs.Common.{ℕ, ◌+◌, ◌≤◌, Option, Some, None, List, length, ap, arith, length-append}
use Rattle.asn1_core.specs.Elements.{Element, head_of_element}
use Rattle.asn1_core.specs.Lenient.{ber_head_of_head}
use Rattle.asn1_core.proofs.LenientLaws.{lenient_is_ber_lem}
use Rattle.asn1_core.proofs.Long.{header_long}
use Rattle.asn1_any.specs.DerElements.{SpellsElement, BeginsWithElement}
use Rattle.asn1_any.specs.BerElements.{BerElement, Closes, IsWithin, BeginsWithBerElement}

pub content_long : (front : List ℕ) (e : Element) → SpellsElement front e → length e.content + 2 ≤ length front
content_long front e spells =
    let head = head_of_element e in
    let header = header_long spells.header (ber_head_of_head head) (lenient_is_ber_lem spells.header head spells.spells) in
    omega (arith, header, ap length spells.whole, length-append spells.header e.content)

pub element_takes : (octets rest : List ℕ) (e : Element) → BeginsWithElement octets e rest → length e.content + 2 + length rest ≤ length octets
element_takes octets rest e begins =
    omega (arith, ap length begins.whole, length-append begins.front rest, content_long begins.front e begins.spells)

closed_long : (Kind : List ℕ → Type 0) (size : Option ℕ) (content body : List ℕ) → Closes Kind size content body → length content ≤ length body
closed_long Kind (Some n) content body closes = omega (arith, ap length closes.1)
closed_long Kind None content body closes = omega (arith, ap length closes.1, length-append content)

pub ber_element_takes : (levels : ℕ) (octets rest : List ℕ) (e : BerElement) → BeginsWithBerElement levels octets e rest → length e.content + 2 + length rest ≤ length octets
ber_element_takes levels octets rest e begins =
    let spells = begins.spells in
    let closed = closed_long (IsWithin levels) e.head.size e.content spells.body spells.closes in
    omega (arith, closed, header_long spells.header e.head spells.spells, ap length spells.whole, length-append spells.header spells.body, ap length begins.whole, length-append begins.front rest)
