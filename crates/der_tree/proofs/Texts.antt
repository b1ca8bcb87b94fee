-- Laws of the tests on the octets of strings.
use Rattle.std.proofs.Common.{◌≡◌, refl, ℕ, ◌*◌, ◌^◌, ◌%◌, ◌<◌, ◌==◌, ◌&&◌, nat_lt, List, [], ◌∷◌, ◌++◌, Bool, true, false, length, arith, IsUtf8, zero, suc}
use Rattle.std.specs.List.{list_all}
use Rattle.std.specs.Str.{IsAscii}
use Rattle.std.proofs.lemmas.Str.{IsUtf8-from_ascii}
use Rattle.std.proofs.lemmas.Str.Ascii.{IsAscii-nil}
use Rattle.std.proofs.lemmas.Bool.Decides.{nat_tests}
use Rattle.der_tree.specs.Table.{is_numeric, is_printable, is_visible, are_unused_zero}
use Rattle.der_tree.specs.Time.{ends_in_zero}
use Rattle.der_tree.specs.Charset.{has}
use Rattle.der_tree.specs.declared.strings.Charset.{Charset}
use Rattle.der_tree.specs.declared.strings.Charset.TheVariants.{Numeric, Printable, Ia5, Visible}

numeric_below : (c : ℕ) → is_numeric c ≡ true → c < 128
numeric_below c p = grind (arith, nat_tests)

printable_below : (c : ℕ) → is_printable c ≡ true → c < 128
printable_below c p = grind (arith, nat_tests)

ia5_below : (c : ℕ) → nat_lt c 128 ≡ true → c < 128
ia5_below c p = grind (arith, nat_tests)

visible_below : (c : ℕ) → is_visible c ≡ true → c < 128
visible_below c p = grind (arith, nat_tests)

has_below : (charset : Charset) (c : ℕ) → has charset c ≡ true → c < 128
has_below Numeric c p = numeric_below c p
has_below Printable c p = printable_below c p
has_below Ia5 c p = ia5_below c p
has_below Visible c p = visible_below c p

both_true : (a b : Bool) → (a && b) ≡ true → (a ≡ true) × (b ≡ true)
both_true true b p = (refl, p)
both_true false b p = cc

ascii_more : (c : ℕ) (s : List ℕ) → c < 128 → IsAscii s → IsAscii (c ∷ s)
ascii_more c s lt p zero = lt
ascii_more c s lt p (suc i) = p i

all_ascii : (charset : Charset) (s : List ℕ) → list_all (has charset) s ≡ true → IsAscii s
all_ascii charset [] p = IsAscii-nil
all_ascii charset (c ∷ s) p =
    let both = both_true (has charset c) (list_all (has charset) s) p in
    ascii_more c s (has_below charset c both.0) (all_ascii charset s both.1)

pub text_utf8 : (charset : Charset) (s : List ℕ) → list_all (has charset) s ≡ true → IsUtf8 s
text_utf8 charset s p = IsUtf8-from_ascii s (all_ascii charset s p)

pub unused_last : (unused : ℕ) (s : List ℕ) (a : ℕ) → are_unused_zero unused (s ++ a ∷ []) ≡ (a % 2 ^ unused == 0)
unused_last unused [] a = refl
unused_last unused (b ∷ []) a = refl
unused_last unused (b ∷ c ∷ s) a = unused_last unused (c ∷ s) a

pub zero_last : (s : List ℕ) (a : ℕ) → ends_in_zero (s ++ a ∷ []) ≡ (a == 48)
zero_last [] a = refl
zero_last (b ∷ []) a = refl
zero_last (b ∷ c ∷ s) a = zero_last (c ∷ s) a

pub shifted : (k : ℕ) → k < 8 → 1 * 2 ^ k % 256 ≡ 2 ^ k
shifted zero p = refl
shifted (suc zero) p = refl
shifted (suc (suc zero)) p = refl
shifted (suc (suc (suc zero))) p = refl
shifted (suc (suc (suc (suc zero)))) p = refl
shifted (suc (suc (suc (suc (suc zero))))) p = refl
shifted (suc (suc (suc (suc (suc (suc zero)))))) p = refl
shifted (suc (suc (suc (suc (suc (suc (suc zero))))))) p = refl
shifted (suc (suc (suc (suc (suc (suc (suc (suc k)))))))) p = absurd (omega arith)

pub empty_of : (xs : List ℕ) → length xs ≡ 0 → xs ≡ []
empty_of [] none = refl
empty_of (x ∷ xs) none = absurd (omega arith)
