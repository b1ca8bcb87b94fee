-- A header takes two octets at least.
use Rattle.std.proofs.Common.{ℕ, ◌+◌, ◌≤◌, Bool, Option, Some, None, List, length, inl, inr, ap, arith, length-append}
use Rattle.asn1_core.specs.Strict.{Head, strict_header}
use Rattle.asn1_core.specs.Lenient.{BerHead, ber_head_of_head, SpellsIdentifier, SpellsLength, SpellsBerLength, SpellsBerHeader}
use Rattle.asn1_core.proofs.Headers.{BeginsWith, BeginsWithBer}
use Rattle.asn1_core.proofs.LenientLaws.{lenient_is_ber_lem}
use Rattle.asn1_core.proofs.StrictLaws.{BeginsStrictly, header_is_lenient}

identifier_long : (octets : List ℕ) (class : ℕ) (constructed : Bool) (tag : ℕ) → SpellsIdentifier octets class constructed tag → 1 ≤ length octets
identifier_long octets class constructed tag (inl low) = let e = ap length low.1 in omega arith
identifier_long octets class constructed tag (inr high) = let e = ap length high.2 in omega arith

definite_long : (octets : List ℕ) (n : ℕ) → SpellsLength octets n → 1 ≤ length octets
definite_long octets n (inl short) = let e = ap length short.1 in omega arith
definite_long octets n (inr long) = let e = ap length long.3 in omega arith

length_long : (octets : List ℕ) (constructed : Bool) (size : Option ℕ) → SpellsBerLength octets constructed size → 1 ≤ length octets
length_long octets constructed (Some n) spells = definite_long octets n spells
length_long octets constructed None spells = let e = ap length spells.1 in omega arith

pub header_long : (front : List ℕ) (h : BerHead) → SpellsBerHeader front h → 2 ≤ length front
header_long front h spells =
    let identifier = identifier_long spells.identifier h.class h.constructed h.tag spells.spells_identifier in
    let size = length_long spells.size h.constructed h.size spells.spells_length in
    omega (arith, ap length spells.whole, length-append spells.identifier spells.size)

pub ber_shortens : (octets rest : List ℕ) (h : BerHead) → BeginsWithBer octets h rest → length rest + 2 ≤ length octets
ber_shortens octets rest h begins =
    omega (arith, ap length begins.whole, length-append begins.front rest, header_long begins.front h begins.spells)

pub shortens : (octets rest : List ℕ) (h : Head) → BeginsWith octets h rest → length rest + 2 ≤ length octets
shortens octets rest h begins =
    omega (arith, ap length begins.whole, length-append begins.front rest, header_long begins.front (ber_head_of_head h) (lenient_is_ber_lem begins.front h begins.spells))

pub strictly_shortens : (octets rest : List ℕ) (h : Head) → BeginsStrictly octets h rest → length rest + 2 ≤ length octets
strictly_shortens octets rest h begins =
    omega (arith, ap length begins.whole, length-append (strict_header h) rest, header_long (strict_header h) (ber_head_of_head h) (lenient_is_ber_lem (strict_header h) h (header_is_lenient h begins.head)))
