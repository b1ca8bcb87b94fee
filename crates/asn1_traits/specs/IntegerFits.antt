-- That the tests of machine integers find what they name.
use Rattle.std.proofs.Common.{arith, ◌≡◌, ◌↔◌, ◌-◌, ◌^◌, ◌<◌, ◌≤◌, nat_lt, refl, ℕ, ℤ, pos, negsuc, lt-ltb}
use Rattle.std.specs.Prelude.{IsTrue}
use Rattle.std.proofs.lemmas.Bool.{ltb-true}
use Rattle.asn1_traits.specs.Integers.{IsUnsigned, IsSigned, size_of}
use Rattle.asn1_traits.specs.IntegerReading.{is_unsigned, is_signed}

pub unsigned_fitting : (bits : ℕ) (z : ℤ) → IsTrue (is_unsigned bits z) ↔ IsUnsigned bits z
unsigned_fitting bits (pos n) = ((λ h. ltb-true n (2 ^ bits) h), (λ h. lt-ltb n (2 ^ bits) h))
unsigned_fitting bits (negsuc n) = ((λ h. cc), (λ h. absurd h))

pub signed_fitting : (bits : ℕ) (z : ℤ) → IsTrue (is_signed bits z) ↔ IsSigned bits z
signed_fitting bits z = ((λ h. ltb-true (size_of z) (2 ^ (bits - 1)) h), (λ h. lt-ltb (size_of z) (2 ^ (bits - 1)) h))
