-- Readers of single elements take what the relations say, and no more.
use Rattle.std.proofs.Common.{◌≡◌, ◌∙◌, refl, sym, ap, subst, ℕ, ◌==◌, ◌||◌, not, List, [], ◌∷◌, Bool, true, false, arith, length, length-append, Option, Some, None, Result, Ok, Err, if◌then◌else◌, inl, inr}
use Rattle.std.specs.Int.Digits.{AllBelowBase}
use Rattle.std.specs.Result.{result_ok}
use Rattle.std.proofs.lemmas.Bool.Decides.{nat_tests}
use Rattle.asn1_core.proofs.Cases.{chosen}
use Rattle.asn1_core.specs.Elements.{Element}
use Rattle.asn1_core.specs.declared.error.Error.{Error}
use Rattle.asn1_any.specs.Cutting.{Piece}
use Rattle.asn1_any.proofs.Long.{content_long}
use Rattle.x509_core.specs.asn1_traits.specs.Integers.{IsShortest}
use Rattle.x509_core.specs.asn1_traits.specs.IntegerReading.{is_shortest}
use Rattle.asn1_values.specs.Readers.{bits_at as bits_inside, check_bits}
use Rattle.asn1_values.specs.ReaderLaws.{bits_is, check_bits_is}
use Rattle.x509_core.specs.Answers.{Answer, unnamed, plain, ◌>>=◌}
use Rattle.x509_core.specs.Reading.{piece_at}
use Rattle.x509_core.specs.Grammar.{One, UnlessAtEnd}
use Rattle.x509_core.proofs.Grammars.{IsMeaning, two, piece_found, piece_only}
use Rattle.x509_core.proofs.LeafLaws.{was_plain, octets_meaning_of, leaf_meaning}
pub use Rattle.x509_core.proofs.LeafLaws.{content_found, content_only, oid_meaning, any_meaning}
use Rattle.x509_names.specs.Fields.{Bits}
use Rattle.x509_names.specs.Leaves.{IsOctets, IsInteger, IsShortestContent, IsBits, AreBits, IsAny}
use Rattle.x509_names.specs.Reading.{octets_in, integer_in, shortest_of, bits_of, bits_in, parameters_at}

pub octets_meaning : IsMeaning IsOctets (λ q. octets_in q.element)
octets_meaning = octets_meaning_of 4

pub shortest_is : (content : List ℕ) → is_shortest content ≡ true → IsShortest content
shortest_is [] e = cc
shortest_is (octet ∷ []) e = tt
shortest_is (octet ∷ next ∷ octets) e = grind (arith, nat_tests)

pub is_shortest_of : (content : List ℕ) → IsShortest content → is_shortest content ≡ true
is_shortest_of [] is = absurd is
is_shortest_of (octet ∷ []) is = refl
is_shortest_of (octet ∷ next ∷ octets) is = grind (arith, nat_tests)

shortest_found : (c v : List ℕ) → shortest_of c ≡ Ok v → IsShortestContent c v
shortest_found c v given =
    elim (chosen (is_shortest c) _ _ _ given) [
      | inl is ↦ record { same = cc; shortest = shortest_is c is.0 }
      | inr other ↦ let impossible = other.1 in cc
    ]

shortest_only : (c v : List ℕ) → IsShortestContent c v → shortest_of c ≡ Ok v
shortest_only c v is = rw (is_shortest_of c is.shortest) (ap (λ z. Ok z) (sym is.same))

pub integer_meaning : IsMeaning IsInteger (λ q. integer_in q.element)
integer_meaning = leaf_meaning 2 IsShortestContent shortest_of shortest_found shortest_only

pub bits_found : (c : List ℕ) (b : Bits) → bits_of c ≡ Ok b → AreBits c b
unfolding bits_of
bits_found c b given =
    let first = two (plain (result_ok (check_bits c))) _ b given in
    let strict = (check_bits_is c).0 (was_plain (check_bits c) tt first.1) in
    let second = two (plain (result_ok (bits_inside c))) _ b first.2 in
    let means = (bits_is c second.0.0 second.0.1).0 (was_plain (bits_inside c) second.0 second.1) in
    let same : ◌≡◌ {A = Bits} (record { unused = second.0.0; octets = second.0.1 }) b = cc in
    let both : strict.unused ∷ strict.octets ≡ second.0.0 ∷ second.0.1 = sym strict.whole ∙ means.whole in
    let unused : strict.unused ≡ second.0.0 = cc in
    let octets : strict.octets ≡ second.0.1 = cc in
    subst (AreBits c) same (record { whole = means.whole; strict = rw (sym unused, sym octets) strict.strict })

pub bits_only : (c : List ℕ) (b : Bits) → AreBits c b → bits_of c ≡ Ok b
unfolding bits_of
bits_only c b is =
    let strict = (check_bits_is c).1 (record { unused = b.unused; octets = b.octets; whole = is.whole; strict = is.strict }) in
    let means = (bits_is c b.unused b.octets).1 (record { whole = is.whole; bits = is.strict.bits }) in
    rw (strict, means) refl

pub bits_meaning : IsMeaning IsBits (λ q. bits_in q.element)
bits_meaning = leaf_meaning 3 AreBits bits_of bits_found bits_only

-- any element that is read
pub piece_any : (i : List ℕ) (q : Piece) (r : List ℕ) → AllBelowBase 256 i → piece_at i ≡ Ok (q, r) → One IsAny i q.element r
piece_any i q r below given =
    let read = piece_found i q r below given in
    record { piece = q; spells = read.spells; whole = read.whole; means = refl }

same_some : (a v : Element) (s r : List ℕ) → (let x : Answer (Option Element × List ℕ) = Ok (Some a, s) in x ≡ Ok (Some v, r)) → ◌≡◌ {A = Element × List ℕ} (a, s) (v, r)
same_some a v s r given =
    let pairs : ◌≡◌ {A = Option Element × List ℕ} (Some a, s) (Some v, r) = cc in
    let value : ◌≡◌ {A = Option Element} (Some a) (Some v) = ap (λ (z : Option Element × List ℕ). z.0) pairs in
    let rest : s ≡ r = ap (λ (z : Option Element × List ℕ). z.1) pairs in
    let same : a ≡ v = cc in
    cc

pub parameters_found : (i : List ℕ) (v : Option Element) (r : List ℕ) → AllBelowBase 256 i → parameters_at i ≡ Ok (v, r) → UnlessAtEnd (One IsAny) i v r
parameters_found [] None r below given = (refl, let both : ◌≡◌ {A = Option Element × List ℕ} (None, []) (None, r) = cc in sym (ap (λ (z : Option Element × List ℕ). z.1) both))
parameters_found [] (Some v) r below given =
    let both : ◌≡◌ {A = Option Element × List ℕ} (None, []) (Some v, r) = cc in
    let wrong : ◌≡◌ {A = Option Element} None (Some v) = ap (λ (z : Option Element × List ℕ). z.0) both in
    cc
parameters_found (x ∷ s) None r below given =
    let step = two (piece_at (x ∷ s)) _ (None, r) given in
    let both : ◌≡◌ {A = Option Element × List ℕ} (Some step.0.0.element, step.0.1) (None, r) = cc in
    let wrong : ◌≡◌ {A = Option Element} (Some step.0.0.element) None = ap (λ (z : Option Element × List ℕ). z.0) both in
    cc
parameters_found (x ∷ s) (Some v) r below given =
    let step = two (piece_at (x ∷ s)) _ (Some v, r) given in
    let same = same_some step.0.0.element v step.0.1 r step.2 in
    let any = piece_any (x ∷ s) step.0.0 step.0.1 below step.1 in
    subst (λ (z : Element × List ℕ). One IsAny (x ∷ s) z.0 z.1) same any

pub parameters_only : (i : List ℕ) (v : Option Element) (r : List ℕ) → UnlessAtEnd (One IsAny) i v r → parameters_at i ≡ Ok (v, r)
parameters_only [] None r is = rw is.1 refl
parameters_only (x ∷ s) None r is = let impossible = is.0 in cc
parameters_only [] (Some v) r is =
    let long = content_long is.piece.octets is.piece.element is.spells in
    absurd (omega (arith, long, ap length is.whole, length-append is.piece.octets r))
parameters_only (x ∷ s) (Some v) r is =
    let read = piece_only (x ∷ s) is.piece r is.spells is.whole in
    rw (read, is.means) refl
