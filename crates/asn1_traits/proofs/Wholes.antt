-- The number of two's complement octets, by the sign and the octets without it.
use Rattle.std.proofs.Common.{arith, ◌≡◌, ◌≢◌, ◌∙◌, ◌⊎◌, refl, sym, ap, subst, ℕ, ℤ, pos, negsuc, ◌+◌, ◌-◌, ◌^◌, ◌<◌, ◌≤◌, nat_lt, Bool, true, false, if◌then◌else◌, List, [], ◌∷◌, Result, Ok, Err, lt-ltb, le-ltb}
use Rattle.std.specs.Prelude.{nat_le}
use Rattle.std.proofs.lemmas.Bool.{leb-true, leb-false}
use Rattle.std.specs.Int.Digits.{number_from_digits}
use Rattle.asn1_core.specs.declared.error.Error.{Error}
use Rattle.asn1_core.specs.declared.error.Error.TheVariants as errors
use Rattle.asn1_traits.specs.Integers.{turned, unsigned_octets, twos_complement, SpellsInteger, size_of}
use Rattle.asn1_traits.specs.IntegerLaws.{IntegerMeans}
use Rattle.asn1_traits.specs.Leaves.{ReadsContent}
use Rattle.asn1_traits.specs.Wholes.{whole_of, FitsWhole}
use Rattle.asn1_traits.specs.declared.integer.Whole.{Whole}

pub unsigned_cons : (b : Bool) (octet : ℕ) (octets : List ℕ) → unsigned_octets b (octet ∷ octets) ≡ (if b then 255 - octet else octet) ∷ unsigned_octets b octets
unsigned_cons true octet octets = refl
unsigned_cons false octet octets = refl

abbrev signed_of : Bool → ℕ → ℤ
signed_of b n = if b then negsuc n else pos n

twos_is : (b : Bool) (first : ℕ) (rest : List ℕ) → nat_le 128 first ≡ b → twos_complement (first ∷ rest) ≡ signed_of b (number_from_digits 256 (unsigned_octets b (first ∷ rest)))
unfolding twos_complement
twos_is true first rest e = let high : nat_lt first 128 ≡ false = le-ltb first 128 (leb-true 128 first e) in rw high refl
twos_is false first rest e = let low : nat_lt first 128 ≡ true = lt-ltb first 128 (leb-false 128 first e) in rw low refl

twos_of : (octets : List ℕ) (first : ℕ) (rest : List ℕ) → octets ≡ first ∷ rest → twos_complement octets ≡ signed_of (nat_le 128 first) (number_from_digits 256 (unsigned_octets (nat_le 128 first) octets))
twos_of octets first rest e =
    ap twos_complement e ∙ twos_is (nat_le 128 first) first rest refl ∙ ap (λ z. signed_of (nat_le 128 first) (number_from_digits 256 (unsigned_octets (nat_le 128 first) z))) (sym e)

pub spelled : (octets : List ℕ) (first : ℕ) (rest : List ℕ) (size : ℕ) → octets ≡ first ∷ rest → size ≡ number_from_digits 256 (unsigned_octets (nat_le 128 first) octets) →
    SpellsInteger octets (if nat_le 128 first then negsuc size else pos size)
spelled octets first rest size e s = record { some = λ h. cc; value = twos_of octets first rest e ∙ ap (λ n. signed_of (nat_le 128 first) n) (sym s) }

size_is : (b : Bool) (n : ℕ) → size_of (signed_of b n) ≡ n
size_is true n = refl
size_is false n = refl

pub size_twos : (octets : List ℕ) (first : ℕ) (rest : List ℕ) → octets ≡ first ∷ rest → size_of (twos_complement octets) ≡ number_from_digits 256 (unsigned_octets (nat_le 128 first) octets)
size_twos octets first rest e = ap size_of (twos_of octets first rest e) ∙ size_is (nat_le 128 first) (number_from_digits 256 (unsigned_octets (nat_le 128 first) octets))

-- the type's value of the number, or none
pub from_fits : {V : Type 0} (number : V → ℤ) (InRange : ℤ → Type 0) (content : List ℕ) (z : ℤ) (r : Result V Error) → SpellsInteger content z → FitsWhole number InRange z r → ReadsContent ⊥ (IntegerMeans number InRange) content r
from_fits number InRange content z (Ok v) s f =
    let Spelled : ℤ → Type 0 = λ k. SpellsInteger content k in
    (subst Spelled (sym f.0) s, subst InRange (sym f.0) f.1)
from_fits number InRange content z (Err e) s f = (f.0, λ ne v m. f.1 (subst InRange (sym m.0.value ∙ s.value) m.1))
