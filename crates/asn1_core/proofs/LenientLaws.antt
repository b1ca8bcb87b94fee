-- A list begins with one lenient header, at most.
use Rattle.std.proofs.Common.{◌≡◌, ℕ, List, ◌++◌, length, take, drop, sym, ap, ap₂, ◌∙◌, arith, length-append}
use Rattle.std.proofs.Math.Seq.{take-append_seam, drop-append_seam}
use Rattle.asn1_core.specs.Strict.{Head, IsHead}
use Rattle.asn1_core.specs.Lenient.{SpellsHeader, BerHead, IsBerHead, SpellsBerHeader, ber_head_of_head}
use Rattle.asn1_core.specs.Reading.{header_at, ber_header_at}
use Rattle.asn1_core.proofs.Cases.{same_answer}
use Rattle.asn1_core.proofs.Headers.{header_again, ber_header_again}

-- lists of one length that begin one list are one, and so are the rests
pub same_split : (before front xs ys : List ℕ) → length before ≡ length front → before ++ xs ≡ front ++ ys → (before ≡ front) × (xs ≡ ys)
same_split before front xs ys same e =
    let heads : before ≡ front = sym (take-append_seam before xs) ∙ ap₂ (λ n l. take n l) same e ∙ take-append_seam front ys in
    let tails : xs ≡ ys = sym (drop-append_seam before xs) ∙ ap₂ (λ n l. drop n l) same e ∙ drop-append_seam front ys in
    (heads, tails)

-- fronts of one list with one rest after them are equal
same_front : (f g xs ys : List ℕ) → xs ≡ ys → f ++ xs ≡ g ++ ys → f ≡ g
same_front f g xs ys same e =
    let sizes : length f ≡ length g = omega (arith, length-append f xs, length-append g ys, ap length e, ap length same) in
    (same_split f g xs ys sizes e).0

pub one_lenient_header_lem : (f g xs ys : List ℕ) (h k : Head) → IsHead h → IsHead k → SpellsHeader f h → SpellsHeader g k
    → f ++ xs ≡ g ++ ys → (h ≡ k) × (f ≡ g) × (xs ≡ ys)
one_lenient_header_lem f g xs ys h k first second spells others e =
    let done = same_answer h k xs ys (sym (header_again f h xs first spells) ∙ ap header_at e ∙ header_again g k ys second others) in
    (done.0, same_front f g xs ys done.1 e, done.1)

pub one_ber_header_lem : (f g xs ys : List ℕ) (h k : BerHead) → IsBerHead h → IsBerHead k → SpellsBerHeader f h → SpellsBerHeader g k
    → f ++ xs ≡ g ++ ys → (h ≡ k) × (f ≡ g) × (xs ≡ ys)
one_ber_header_lem f g xs ys h k first second spells others e =
    let done = same_answer h k xs ys (sym (ber_header_again f h xs first spells) ∙ ap ber_header_at e ∙ ber_header_again g k ys second others) in
    (done.0, same_front f g xs ys done.1 e, done.1)

pub lenient_is_ber_lem : (octets : List ℕ) (h : Head) → SpellsHeader octets h → SpellsBerHeader octets (ber_head_of_head h)
lenient_is_ber_lem octets h spells = record {
  identifier = spells.identifier;
  size = spells.size;
  whole = spells.whole;
  spells_identifier = spells.spells_identifier;
  spells_length = spells.spells_length;
}

pub head_is_ber : (h : Head) → IsHead h → IsBerHead (ber_head_of_head h)
head_is_ber h head = record { class = head.class; tag = head.tag; size = head.size }
