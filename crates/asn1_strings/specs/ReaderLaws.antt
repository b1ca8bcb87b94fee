-- That the functions of `Readers` find what `Charsets` and `Texts` say, and nothing else.
use Rattle.std.proofs.Common.{◌≡◌, ◌↔◌, sym, ap, refl, ℕ, Bool, true, false, IsTrue, List, Result, Ok, Err}
use Rattle.std.specs.Str.{IsUtf8, is_utf8}
use Rattle.std.proofs.lemmas.Bool.{false_from_ne_true}
use Rattle.std.proofs.lemmas.Str.{IsUtf8-from_is_utf8, is_utf8-from_IsUtf8}
use Rattle.asn1_core.specs.declared.error.Error.{Error}
use Rattle.asn1_core.specs.declared.error.Error.TheVariants as errors
use Rattle.asn1_strings.specs.Texts.{TestsCharset}
use Rattle.asn1_strings.specs.Readers.{charset_at, text_at}

pub utf8_told : (octets : List ℕ) → IsTrue (is_utf8 octets) ↔ IsUtf8 octets
utf8_told octets = (λ h. IsUtf8-from_is_utf8 octets h, λ h. is_utf8-from_IsUtf8 octets h)

-- a test of a character set finds its text
abbrev pub Tells : (List ℕ → Bool) → (List ℕ → Type 0) → Type 0
Tells tests is_text = (octets : List ℕ) → IsTrue (tests octets) ↔ is_text octets

pub charset_told : (tests : List ℕ → Bool) (is_text : List ℕ → Type 0) → Tells tests is_text → (octets : List ℕ) (r : Result (Unit {0}) Error) →
    TestsCharset is_text octets r → r ≡ charset_at tests octets
charset_told tests is_text tells octets (Ok x) p = let test = (tells octets).1 p in rw test refl
charset_told tests is_text tells octets (Err e) p =
    let test = false_from_ne_true (tests octets) (λ yes. p.1 ((tells octets).0 yes)) in
    rw test (ap Err p.0)

pub text_read : (tests : List ℕ → Bool) (octets text : List ℕ) → Ok tt ≡ charset_at tests octets → text ≡ octets → text_at tests octets ≡ Ok text
text_read tests octets text is same = by (tests octets) refl
  where
    by : (b : Bool) → tests octets ≡ b → text_at tests octets ≡ Ok text
    by true test = rw test (ap Ok (sym same))
    by false test = let never = rw test at is in cc

pub text_unread : (tests : List ℕ → Bool) (octets : List ℕ) (e : Error) → Err e ≡ charset_at tests octets → text_at tests octets ≡ Err e
text_unread tests octets e is = by (tests octets) refl
  where
    by : (b : Bool) → tests octets ≡ b → text_at tests octets ≡ Err e
    by true test = let never = rw test at is in cc
    by false test =
        let same = rw test at is in
        let error : errors.StringInvalidCharset ≡ e = cc in
        rw test (ap Err error)

text_found : (tests : List ℕ → Bool) (content text : List ℕ) → text_at tests content ≡ Ok text → (text ≡ content) × IsTrue (tests content)
text_found tests content text e = by (tests content) refl
  where
    by : (b : Bool) → tests content ≡ b → (text ≡ content) × IsTrue (tests content)
    by true test = let same = rw test at e in (cc, test)
    by false test = let never = rw test at e in cc

-- the text of a content, if it is text of the type
pub text_is : (tests : List ℕ → Bool) (is_text : List ℕ → Type 0) → Tells tests is_text → (content text : List ℕ) → (text_at tests content ≡ Ok text) ↔ ((text ≡ content) × is_text content)
text_is tests is_text tells content text = (
  λ e. let found = text_found tests content text e in (found.0, (tells content).0 found.1),
  λ p. let test = (tells content).1 p.1 in rw test (ap Ok (sym p.0)),
)
