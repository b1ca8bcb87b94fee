-- A value that may be absent is read in one way.
use Rattle.std.proofs.Common.{arith, ◌≡◌, ◌≢◌, ◌∙◌, ◌⊎◌, inl, inr, refl, sym, ap, ℕ, ◌≤◌, ◌+◌, Option, Some, None, List, [], ◌++◌, length, length-append, append_assoc}
use Rattle.asn1_core.specs.Lenient.{SpellsHeader, ber_head_of_head, BerHead}
use Rattle.asn1_core.specs.Strict.{Head}
use Rattle.asn1_core.proofs.LenientLaws.{one_lenient_header_lem, one_ber_header_lem, lenient_is_ber_lem}
use Rattle.asn1_core.proofs.Long.{header_long}
use Rattle.asn1_traits.specs.Options.{BeginsWithTag, BeginsWithBerTag, IsAbsent, OptionReads}

-- headers that begin octets: one at most, and none if there are no octets
pub record AreHeaders (Begins : List ℕ → ℕ → Type 0) : Type 0 where
  pub once : (octets : List ℕ) (m n : ℕ) → Begins octets m → Begins octets n → m ≡ n
  pub some : (n : ℕ) → Begins [] n → ⊥
  pub more : (octets behind : List ℕ) (n : ℕ) → Begins octets n → Begins (octets ++ behind) n

pub der_headers : AreHeaders BeginsWithTag
der_headers = record {
  once = λ octets m n p q.
      let both = one_lenient_header_lem p.front q.front p.rest q.rest p.head q.head p.in_range q.in_range p.spells q.spells (sym p.whole ∙ q.whole) in
      sym p.tells ∙ ap (λ (h : Head). h.tag) both.0 ∙ q.tells;
  some = λ n p. omega (arith, ap length p.whole, length-append p.front p.rest, header_long p.front (ber_head_of_head p.head) (lenient_is_ber_lem p.front p.head p.spells));
  more = λ octets behind n p. record { head = p.head; front = p.front; rest = p.rest ++ behind; in_range = p.in_range; spells = p.spells; whole = ap (λ z. z ++ behind) p.whole ∙ append_assoc p.front p.rest behind; tells = p.tells };
}

pub ber_headers : AreHeaders BeginsWithBerTag
ber_headers = record {
  once = λ octets m n p q.
      let both = one_ber_header_lem p.front q.front p.rest q.rest p.head q.head p.in_range q.in_range p.spells q.spells (sym p.whole ∙ q.whole) in
      sym p.tells ∙ ap (λ (h : BerHead). h.tag) both.0 ∙ q.tells;
  some = λ n p. omega (arith, ap length p.whole, length-append p.front p.rest, header_long p.front p.head p.spells);
  more = λ octets behind n p. record { head = p.head; front = p.front; rest = p.rest ++ behind; in_range = p.in_range; spells = p.spells; whole = ap (λ z. z ++ behind) p.whole ∙ append_assoc p.front p.rest behind; tells = p.tells };
}

-- a present value isn't absent
pub not_both : (Begins : List ℕ → ℕ → Type 0) (tag : ℕ) (octets : List ℕ) → AreHeaders Begins → Begins octets tag → IsAbsent Begins tag octets → ⊥
not_both Begins tag octets h p (inl e) = h.some tag (rw (← e) p)
not_both Begins tag octets h p (inr o) = o.1 (h.once octets o.0 tag o.2 p)

pub option_rest : {V : Type 0} (Begins : List ℕ → ℕ → Type 0) (tag : ℕ) (reads : List ℕ → V → List ℕ → Type 0) → AreHeaders Begins →
    ((octets : List ℕ) (v w : V) (r s : List ℕ) → reads octets v r → reads octets w s → r ≡ s) →
    (octets : List ℕ) (v w : Option V) (r s : List ℕ) → OptionReads Begins tag reads octets v r → OptionReads Begins tag reads octets w s → r ≡ s
option_rest Begins tag reads h once octets (Some v) (Some w) r s p q = once octets v w r s p.1 q.1
option_rest Begins tag reads h once octets (Some v) None r s p q = absurd (not_both Begins tag octets h p.0 q.0)
option_rest Begins tag reads h once octets None (Some w) r s p q = absurd (not_both Begins tag octets h q.0 p.0)
option_rest Begins tag reads h once octets None None r s p q = p.1 ∙ sym q.1
