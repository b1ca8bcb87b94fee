-- A content that is cut.
use Rattle.std.proofs.Common.{◌≡◌, ◌∙◌, sym, ap, ℕ, ◌-◌, ◌<◌, List, ◌++◌, length, arith, length-append}
use Rattle.asn1_core.specs.declared.header.Header.{Header}
use Rattle.asn1_core.specs.declared.length.Length.TheVariants.{Definite}
use Rattle.asn1_core.specs.Views.{length_of, size_of}
use Rattle.der_parser.specs.Outcome.{Begins}
use Rattle.der_parser.specs.Typed.{ReadsContent}

pub content_short : (k n : ℕ) (h : Header) (i : List ℕ) (size : ℕ) → length_of h ≡ Definite size → length i < size → Begins (ReadsContent k n h) i → ⊥
content_short k n h i size is short p =
    let r = p.2 in
    let same : size ≡ length r.inner = ap size_of (sym is ∙ r.size) in
    omega (arith, ap length r.whole, length-append r.inner p.1)

pub content_missing : (k n : ℕ) (h : Header) (i : List ℕ) (size : ℕ) → length_of h ≡ Definite size → (more : List ℕ) → length more < size - length i → Begins (ReadsContent k n h) (i ++ more) → ⊥
content_missing k n h i size is more few = content_short k n h (i ++ more) size is (omega (arith, length-append i more))
