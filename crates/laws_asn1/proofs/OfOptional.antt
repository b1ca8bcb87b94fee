-- A header has two octets at least, and the worked ones begin octets.
use Rattle.std.proofs.Common.{◌≡◌, ◌≢◌, ap, subst, sym, refl, ℕ, ◌+◌, ◌<◌, ◌≤◌, Bool, true, List, [], ◌∷◌, ◌++◌, length, length-append, Option, Some, None, arith, inl, inr}
use Rattle.asn1_core.specs.Lenient.{SpellsBerHeader, SpellsBerLength, SpellsHeader, SpellsIdentifier, SpellsLength}
use Rattle.asn1_core.specs.Strict.{Head}
use Rattle.asn1_traits.specs.Options.{BeginsWithBerTag, BeginsWithTag}
use Rattle.laws_asn1.specs.Worked.{cut_header}

header : SpellsHeader (0xa1 ∷ 0x00 ∷ []) (record { class = 2; constructed = true; tag = 1; size = 0 })
header = record {
  identifier = 0xa1 ∷ [];
  size = 0x00 ∷ [];
  whole = refl;
  spells_identifier = inl (omega arith, refl);
  spells_length = inl (omega arith, refl);
}

pub begins : BeginsWithTag (0xa1 ∷ 0x00 ∷ []) 1
begins = record {
  head = record { class = 2; constructed = true; tag = 1; size = 0 };
  front = 0xa1 ∷ 0x00 ∷ [];
  rest = [];
  in_range = record { class = omega arith; tag = omega arith; size = omega arith };
  spells = header;
  whole = refl;
  tells = refl;
}

indefinite : SpellsBerHeader (0xa1 ∷ 0x80 ∷ []) (record { class = 2; constructed = true; tag = 1; size = None })
indefinite = record {
  identifier = 0xa1 ∷ [];
  size = 0x80 ∷ [];
  whole = refl;
  spells_identifier = inl (omega arith, refl);
  spells_length = (refl, refl);
}

pub begins_ber : BeginsWithBerTag (0xa1 ∷ 0x80 ∷ 0x00 ∷ 0x00 ∷ []) 1
begins_ber = record {
  head = record { class = 2; constructed = true; tag = 1; size = None };
  front = 0xa1 ∷ 0x80 ∷ [];
  rest = 0x00 ∷ 0x00 ∷ [];
  in_range = record { class = omega arith; tag = omega arith; size = tt };
  spells = indefinite;
  whole = refl;
  tells = refl;
}

some_identifier : (octets : List ℕ) (class : ℕ) (constructed : Bool) (tag : ℕ) → SpellsIdentifier octets class constructed tag → 0 < length octets
some_identifier octets class constructed tag (inl h) = let long = ap (λ (s : List ℕ). length s) h.1 in omega (arith, long)
some_identifier octets class constructed tag (inr h) = let long = ap (λ (s : List ℕ). length s) h.2 in omega (arith, long)

some_length : (octets : List ℕ) (n : ℕ) → SpellsLength octets n → 0 < length octets
some_length octets n (inl h) = let long = ap (λ (s : List ℕ). length s) h.1 in omega (arith, long)
some_length octets n (inr h) = let long = ap (λ (s : List ℕ). length s) h.3 in omega (arith, long)

some_ber_length : (octets : List ℕ) (constructed : Bool) (size : Option ℕ) → SpellsBerLength octets constructed size → 0 < length octets
some_ber_length octets constructed (Some n) h = some_length octets n h
some_ber_length octets constructed None h = let long = ap (λ (s : List ℕ). length s) h.1 in omega (arith, long)

-- what begins with two lists that aren't empty has two octets
two_parts : (octets front rest first second : List ℕ) → octets ≡ front ++ rest → front ≡ first ++ second → 0 < length first → 0 < length second → 2 ≤ length octets
two_parts octets front rest first second whole parts some more =
    let a = ap (λ (s : List ℕ). length s) whole in
    let b = ap (λ (s : List ℕ). length s) parts in
    omega (arith, a, b, some, more, length-append front rest, length-append first second)

pub none : (n : ℕ) → BeginsWithTag cut_header n → ⊥
none n h =
    let s = h.spells in
    let long = two_parts cut_header h.front h.rest s.identifier s.size h.whole s.whole (some_identifier s.identifier h.head.class h.head.constructed h.head.tag s.spells_identifier) (some_length s.size h.head.size s.spells_length) in
    omega (arith, long)

pub none_ber : (n : ℕ) → BeginsWithBerTag cut_header n → ⊥
none_ber n h =
    let s = h.spells in
    let long =
    two_parts cut_header h.front h.rest s.identifier s.size h.whole s.whole (some_identifier s.identifier h.head.class h.head.constructed h.head.tag s.spells_identifier)
    (some_ber_length s.size h.head.constructed h.head.size s.spells_length) in
    omega (arith, long)

pub some : cut_header ≢ []
some e = cc
