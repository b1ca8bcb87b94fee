-- Texts of octets below 80 hex are UTF-8.
use Rattle.std.proofs.Common.{arith, ◌≡◌, ℕ, ◌<◌, Bool, true, List, [], ◌∷◌}
use Rattle.std.specs.List.{list_all, All, AllByRecursion}
use Rattle.std.specs.Str.{IsUtf8}
use Rattle.std.proofs.lemmas.Str.{IsUtf8-from_ascii}
use Rattle.std.proofs.lemmas.Str.Ascii.{IsAscii-from_all}
use Rattle.std.proofs.lemmas.List.Elements.{All-from_recursion}
use Rattle.std.proofs.lemmas.Bool.{and_parts}
use Rattle.std.proofs.lemmas.Bool.Decides.{nat_tests}
use Rattle.asn1_strings.specs.Charsets.{IsTextOf, is_numeric, is_printable, is_below_80, is_visible}

each_below : (has : ℕ → Bool) → ((c : ℕ) → has c ≡ true → c < 128) → (octets : List ℕ) → IsTextOf has octets → AllByRecursion (λ b. b < 128) octets
each_below has below [] text = tt
each_below has below (c ∷ cs) text = let parts = and_parts (has c) (list_all has cs) text in (below c parts.0, each_below has below cs parts.1)

all_below : (has : ℕ → Bool) → ((c : ℕ) → has c ≡ true → c < 128) → (octets : List ℕ) → IsTextOf has octets → All (λ b. b < 128) octets
all_below has below octets text = All-from_recursion (λ b. b < 128) octets (each_below has below octets text)

pub text_is_utf8 : (has : ℕ → Bool) → ((c : ℕ) → has c ≡ true → c < 128) → (octets : List ℕ) → IsTextOf has octets → IsUtf8 octets
text_is_utf8 has below octets text = IsUtf8-from_ascii octets (IsAscii-from_all octets (all_below has below octets text))

pub numeric_below_80 : (c : ℕ) → is_numeric c ≡ true → c < 128
numeric_below_80 c is = grind (arith, nat_tests)

pub printable_below_80 : (c : ℕ) → is_printable c ≡ true → c < 128
printable_below_80 c is = grind (arith, nat_tests)

pub below_80 : (c : ℕ) → is_below_80 c ≡ true → c < 128
below_80 c is = grind (arith, nat_tests)

pub visible_below_80 : (c : ℕ) → is_visible c ≡ true → c < 128
visible_below_80 c is = grind (arith, nat_tests)
