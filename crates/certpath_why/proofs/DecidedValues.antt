-- Whether a value of basicConstraints or keyUsage is well written has an answer: what it may say
-- is in its octets.
use Rattle.std.proofs.Common.{◌≡◌, ◌∙◌, ap, sym, subst, refl, ℕ, ◌+◌, ◌*◌, ◌/◌, ◌%◌, ◌^◌, Bool, true, false, List, [], ◌∷◌, ◌++◌, length, append_assoc, Option, Some, None, inl, inr}
use Rattle.std.proofs.lemmas.Bool.{cases_eq}
use Rattle.asn1_core.specs.Elements.{Element, element_octets, head_of_element}
use Rattle.asn1_core.specs.Strict.{strict_header}
use Rattle.cert_model.specs.Fields.{Bits, Number}
use Rattle.cert_model.specs.Octets.{flag_octets, primitive_octets}
use Rattle.cert_model.specs.Range.{AreBits, IfThere, IsNumber}
use Rattle.cert_judge.specs.Constraints.{BasicConstraints, IsBasicConstraints, IsPathLength, basic_constraints_octets, value_of}
use Rattle.cert_judge.specs.Judging.{HasConstraints, HasUsage, IsAuthority, IsSigner}
use Rattle.cert_judge.specs.Usage.{EndsInOne, IsKeyUsage, IsUsage, MaySignCertificates, bit_at}
use Rattle.certpath_why.proofs.Deciding.{Decided, decided_as, decided_end, decided_less, decided_most, decided_same, decided_true, decided_false, from_both}

-- the content of an element ends its octets
content_behind : (e : Element) → (front : List ℕ) × (element_octets e ≡ front ++ e.content)
content_behind e = (strict_header (head_of_element e), refl)

-- ---- basicConstraints

number_decided : (n : Number) → Decided (IsNumber n)
number_decided n = from_both (IsNumber n) (λ i. i.shortest) (λ i. i.sign) (λ a b. record { shortest = a; sign = b }) (decided_true _) (decided_false _)

length_decided : (n : Number) → Decided (IsPathLength n)
length_decided n = from_both (IsPathLength n) (λ i. i.number) (λ i. i.small) (λ a b. record { number = a; small = b }) (number_decided n) (decided_less (value_of n) (2 ^ 32))

range_decided : (n : Option Number) → Decided (IfThere IsPathLength n)
range_decided None = inl tt
range_decided (Some n) = length_decided n

abbrev said : Bool → Option Number → BasicConstraints
said ca len = record { ca = ca; path_len = len }

-- the octets are these constraints, which have a property
abbrev Says : List ℕ → (BasicConstraints → Type 0) → Bool → Option Number → Type 0
Says value P ca len = IsBasicConstraints value (said ca len) × P (said ca len)

constraints_decided : (value : List ℕ) (ca : Bool) (len : Option Number) → Decided (IsBasicConstraints value (said ca len))
constraints_decided value ca len =
    from_both (IsBasicConstraints value (said ca len)) (λ i. i.in_range) (λ i. i.spelled) (λ a b. record { in_range = a; spelled = b }) (range_decided len) (decided_same value (basic_constraints_octets (said ca len)))

says_decided : (value : List ℕ) (P : BasicConstraints → Type 0) → ((b : BasicConstraints) → Decided (P b)) → (ca : Bool) (len : Option Number) → Decided (Says value P ca len)
says_decided value P test ca len = from_both (Says value P ca len) (λ s. s.0) (λ s. s.1) (λ a b. (a, b)) (constraints_decided value ca len) (test (said ca len))

-- the path length ends the octets
length_behind : (value n : List ℕ) (ca : Bool) → IsBasicConstraints value (said ca (Some n)) → (front : List ℕ) × (value ≡ front ++ n)
unfolding basic_constraints_octets
length_behind value n ca is =
    let flag = flag_octets ca in
    let inner = content_behind (record { class = 0; constructed = false; tag = 2; content = n }) in
    let outer = content_behind (record { class = 0; constructed = true; tag = 16; content = flag ++ primitive_octets 2 n }) in (
      outer.0 ++ (flag ++ inner.0),
      is.spelled ∙ outer.1 ∙ ap (λ z. outer.0 ++ (flag ++ z)) inner.1 ∙ ap (λ z. outer.0 ++ z) (sym (append_assoc flag inner.0 n)) ∙ sym (append_assoc outer.0 (flag ++ inner.0) n),
    )

none_said : (value : List ℕ) (P : BasicConstraints → Type 0) → (Says value P false None → ⊥) → (Says value P true None → ⊥)
    → ((front n : List ℕ) → value ≡ front ++ n → Says value P false (Some n) → ⊥) → ((front n : List ℕ) → value ≡ front ++ n → Says value P true (Some n) → ⊥)
    → (ca : Bool) (len : Option Number) → Says value P ca len → ⊥
none_said value P a b c d false None s = a s
none_said value P a b c d true None s = b s
none_said value P a b c d false (Some n) s = let f = length_behind value n false s.0 in c f.0 n f.1 s
none_said value P a b c d true (Some n) s = let f = length_behind value n true s.0 in d f.0 n f.1 s

some_constraints : (value : List ℕ) (P : BasicConstraints → Type 0) → ((b : BasicConstraints) → Decided (P b)) → Decided ((b : BasicConstraints) × IsBasicConstraints value b × P b)
some_constraints value P test = elim (says_decided value P test false None) [
  | inl s ↦ inl (said false None, s.0, s.1)
  | inr a ↦ elim (says_decided value P test true None) [
    | inl s ↦ inl (said true None, s.0, s.1)
    | inr b ↦ elim (decided_end (λ n. Says value P false (Some n)) (λ n. says_decided value P test false (Some n)) value) [
      | inl f ↦ inl (said false (Some f.0), f.1.0, f.1.1)
      | inr c ↦ elim (decided_end (λ n. Says value P true (Some n)) (λ n. says_decided value P test true (Some n)) value) [
        | inl f ↦ inl (said true (Some f.0), f.1.0, f.1.1)
        | inr d ↦ inr (λ h. none_said value P a b c d h.0.ca h.0.path_len (h.1, h.2))
      ]
    ]
  ]
]

pub constraints_or_not : (value : List ℕ) → Decided (HasConstraints value)
constraints_or_not value = decided_as (HasConstraints value) (some_constraints value (λ b. Unit {0}) (λ b. inl tt)) (λ h. (h.0, h.1)) (λ h. (h.0, h.1, tt))

pub authority_or_not : (value : List ℕ) → Decided (IsAuthority value)
authority_or_not value = some_constraints value (λ b. b.ca ≡ true) (λ b. decided_true b.ca)

-- ---- keyUsage

abbrev bits : ℕ → List ℕ → Bits
bits unused octets = record { unused = unused; octets = octets }

no_end : (front : List ℕ) (last : ℕ) → [] ≡ front ++ last ∷ [] → ⊥
no_end [] last e = cc
no_end (x ∷ front) last e = cc

one_end : (x : ℕ) (front : List ℕ) (last : ℕ) → x ∷ [] ≡ front ++ last ∷ [] → x ≡ last
one_end x [] last e = cc
one_end x (y ∷ front) last e = absurd (no_end front last (let rest : [] ≡ front ++ last ∷ [] = cc in rest))

end_behind : (unused x y : ℕ) (octets : List ℕ) → EndsInOne (bits unused (x ∷ y ∷ octets)) → EndsInOne (bits unused (y ∷ octets))
end_behind unused x y octets ([], last, e, one) = absurd (cc)
end_behind unused x y octets (z ∷ front, last, e, one) = (front, last, (let rest : y ∷ octets ≡ front ++ last ∷ [] = cc in rest), one)

end_decided : (unused : ℕ) (octets : List ℕ) → Decided (EndsInOne (bits unused octets))
end_decided unused [] = inr (λ h. no_end h.0 h.1 h.2)
end_decided unused (x ∷ []) = elim (cases_eq (x / 2 ^ unused % 2) 1) [
  | inl e ↦ inl ([], x, refl, e)
  | inr never ↦ inr (λ h. never (subst (λ (z : ℕ). z / 2 ^ unused % 2 ≡ 1) (sym (one_end x h.0 h.1 h.2)) h.3))
]
end_decided unused (x ∷ y ∷ octets) = elim (end_decided unused (y ∷ octets)) [
  | inl h ↦ inl (x ∷ h.0, h.1, ap (λ z. x ∷ z) h.2, h.3)
  | inr never ↦ inr (λ h. never (end_behind unused x y octets h))
]

known_decided : (unused : ℕ) (octets : List ℕ) → Decided (AreBits (bits unused octets))
known_decided unused octets = decided_true _

usage_decided : (unused : ℕ) (octets : List ℕ) → Decided (IsUsage (bits unused octets))
usage_decided unused octets = elim (known_decided unused octets) [
  | inl are ↦ elim (decided_most (8 * length octets) (9 + unused)) [
    | inl few ↦ elim (end_decided unused octets) [ inl end ↦ inl (record { in_range = are; known = few; trimmed = end }) | inr never ↦ inr (λ u. never u.trimmed) ]
    | inr never ↦ inr (λ u. never u.known)
  ]
  | inr never ↦ inr (λ u. never u.in_range)
]

-- the octets, from the number of unused bits on, are the usage, which has a property
abbrev Uses : List ℕ → (Bits → Type 0) → List ℕ → Type 0
Uses value P [] = ⊥
Uses value P (unused ∷ octets) = IsKeyUsage value (bits unused octets) × P (bits unused octets)

spelled_decided : (value : List ℕ) (unused : ℕ) (octets : List ℕ) → Decided (IsKeyUsage value (bits unused octets))
spelled_decided value unused octets =
    from_both (IsKeyUsage value (bits unused octets)) (λ i. i.usage) (λ i. i.spelled) (λ a b. record { usage = a; spelled = b }) (usage_decided unused octets) (decided_same value (primitive_octets 3 (unused ∷ octets)))

uses_decided : (value : List ℕ) (P : Bits → Type 0) → ((b : Bits) → Decided (P b)) → (octets : List ℕ) → Decided (Uses value P octets)
uses_decided value P test [] = inr (λ h. h)
uses_decided value P test (unused ∷ octets) = from_both (Uses value P (unused ∷ octets)) (λ s. s.0) (λ s. s.1) (λ a b. (a, b)) (spelled_decided value unused octets) (test (bits unused octets))

usage_behind : (value : List ℕ) (b : Bits) → IsKeyUsage value b → (front : List ℕ) × (value ≡ front ++ b.unused ∷ b.octets)
usage_behind value b is = let inner = content_behind (record { class = 0; constructed = false; tag = 3; content = b.unused ∷ b.octets }) in (inner.0, is.spelled ∙ inner.1)

usage_found : (value : List ℕ) (P : Bits → Type 0) (octets : List ℕ) → Uses value P octets → (b : Bits) × IsKeyUsage value b × P b
usage_found value P [] h = absurd h
usage_found value P (unused ∷ octets) h = (bits unused octets, h.0, h.1)

some_usage : (value : List ℕ) (P : Bits → Type 0) → ((b : Bits) → Decided (P b)) → Decided ((b : Bits) × IsKeyUsage value b × P b)
some_usage value P test = elim (decided_end (Uses value P) (uses_decided value P test) value) [
  | inl f ↦ inl (usage_found value P f.0 f.1)
  | inr none ↦ inr (λ h. let f = usage_behind value h.0 h.1 in none f.0 (h.0.unused ∷ h.0.octets) f.1 (h.1, h.2))
]

pub usage_or_not : (value : List ℕ) → Decided (HasUsage value)
usage_or_not value = decided_as (HasUsage value) (some_usage value (λ b. Unit {0}) (λ b. inl tt)) (λ h. (h.0, h.1)) (λ h. (h.0, h.1, tt))

pub signer_or_not : (value : List ℕ) → Decided (IsSigner value)
signer_or_not value = some_usage value MaySignCertificates (λ b. cases_eq (bit_at b 5) 1)
