-- The definitions at worked cases.
use Rattle.std.specs.Prelude.{unsigned_abs, ◌==◌}
use Rattle.std.proofs.Common.{◌≡◌, ◌≢◌, ap, sym, subst, refl, zero, suc, ℕ, ◌+◌, ◌<◌, Bool, true, false, Option, Some, None, List, [], ◌∷◌, ◌++◌, length, length-append, arith, get_or, inl, inr, lit<, ◌^◌, ◌/◌, ◌%◌, drop}
use Rattle.std.specs.List.{All}
use Rattle.std.proofs.lemmas.List.Elements.{All-cons}
use Rattle.asn1_core.specs.Strict.{strict_header}
use Rattle.asn1_core.specs.Elements.{Element, head_of_element, element_octets}
use Rattle.asn1_core.proofs.StrictLaws.{one_element_lem}
use Rattle.cert_graph.specs.declared.reach.Reach.TheVariants.{UpTo}
use Rattle.cert_model.specs.Fields.{Bits, Number, CivilTime, Extension}
use Rattle.cert_model.specs.Octets.{number_octets, optional_octets, flag_octets}
use Rattle.cert_model.specs.Extended.{basic_constraints, key_usage, name_constraints, policy_constraints, AreDistinct, EachUnder, SomeUnder, IsWithout}
use Rattle.cert_model.specs.Examples.{new_year, plain, authority_b}
use Rattle.cert_judge.specs.Moments.{IsNotAfter, IsBetween}
use Rattle.cert_judge.specs.Constraints.{BasicConstraints, basic_constraints_octets, IsBasicConstraints}
use Rattle.cert_judge.specs.Usage.{IsKeyUsage}
use Rattle.cert_judge.specs.Judging.{HasConstraints, HasUsage, HasPathLen, IsProcessed, AreUsable, IsUsable, IsSigner, IsFitIssuer}
use Rattle.cert_judge.specs.Further.{no_identifier}
use Rattle.cert_judge.specs.Limits.{path_limit}
use Rattle.cert_judge.specs.Examples.{in_june, too_early, too_late, extended_by, extension, unconstrained, default_written, extended_key_usage, path_length_zero, authority_with_usage, encipherment, signing}

pub none : {X : Type 0} (P : X → Type 0) → All P []
none P = λ k d lt. absurd (omega arith)

pub one : {X : Type 0} (P : X → Type 0) (x : X) → P x → All P (x ∷ [])
one P x h = All-cons P x [] h (none P)

two : {X : Type 0} (P : X → Type 0) (x y : X) → P x → P y → All P (x ∷ y ∷ [])
two P x y h k = All-cons P x (y ∷ []) h (one P y k)

between_2025 : (moment : CivilTime) → IsNotAfter (new_year 2025) moment → IsNotAfter moment (new_year 2026) → IsBetween (new_year 2025) moment (new_year 2026)
between_2025 moment begun lasts = record { begun = begun; lasts = lasts }

pub no_extensions : AreUsable no_identifier []
unfolding EachUnder
no_extensions = record {
  distinct = λ i j d below within. absurd (omega arith);
  processed = none (IsProcessed no_identifier);
  constraints = none _;
  usage = none _;
}

pub first_second : IsUsable no_identifier (new_year 2025) plain
first_second = record { valid = between_2025 (new_year 2025) (inr (refl, refl)) (inl (omega arith)); extensions = no_extensions }

pub last_second : IsUsable no_identifier (new_year 2026) plain
last_second = record { valid = between_2025 (new_year 2026) (inl (omega arith)) (inr (refl, refl)); extensions = no_extensions }

pub second_before : IsUsable no_identifier too_early plain → ⊥
second_before h = elim h.valid.begun [
  | inl less ↦ omega arith
  | inr same ↦ let e : true ≡ false = ap (λ y. unsigned_abs y == 2025) same.0 in cc
]

pub second_behind : IsUsable no_identifier too_late plain → ⊥
second_behind h = elim h.valid.lasts [
  | inl less ↦ omega arith
  | inr same ↦ let late = same.1 in cc
]

pub june_valid : IsBetween (new_year 2025) in_june (new_year 2026)
june_valid = between_2025 in_june (inr (refl, refl)) (inl (omega arith))

abbrev says_nothing : BasicConstraints
says_nothing = record { ca = false; path_len = None }

well_written : HasConstraints unconstrained
unfolding basic_constraints_octets
well_written = (says_nothing, record { in_range = tt; spelled = refl })

pub alone_distinct : (e : Extension) → AreDistinct (e ∷ [])
alone_distinct e = λ i j d below within. absurd (omega arith)

under_constraints : (critical : Bool) → IsUsable no_identifier in_june (extended_by (extension basic_constraints critical unconstrained ∷ []))
unfolding EachUnder IsProcessed
under_constraints critical = record {
  valid = june_valid;
  extensions = record {
    distinct = alone_distinct _;
    processed = one (IsProcessed no_identifier) (extension basic_constraints critical unconstrained) (λ c. inl (inl refl));
    constraints = one (λ (e : Extension). e.identifier ≡ basic_constraints → HasConstraints e.value) (extension basic_constraints critical unconstrained) (λ same. well_written);
    usage = one (λ (e : Extension). e.identifier ≡ key_usage → HasUsage e.value) (extension basic_constraints critical unconstrained) (λ same. absurd cc);
  };
}

pub plain_extension : IsUsable no_identifier in_june (extended_by (extension basic_constraints false unconstrained ∷ []))
plain_extension = under_constraints false

pub critical_extension : IsUsable no_identifier in_june (extended_by (extension basic_constraints true unconstrained ∷ []))
critical_extension = under_constraints true

pub unknown_extension : IsUsable no_identifier in_june (extended_by (extension extended_key_usage true unconstrained ∷ [])) → ⊥
unfolding IsProcessed
unknown_extension h =
    elim (h.extensions.processed 0 (extension extended_key_usage true unconstrained) (lit< tt) refl) [
      | inl here ↦ elim here [ inl same ↦ cc | inr same ↦ cc ]
      | inr more ↦ more
    ]

-- but usable if the caller processes it
pub processed_extension : IsUsable (λ identifier. identifier ≡ extended_key_usage) in_june (extended_by (extension extended_key_usage true unconstrained ∷ []))
unfolding EachUnder IsProcessed
processed_extension =
    let e = extension extended_key_usage true unconstrained in
    record {
      valid = june_valid;
      extensions = record {
        distinct = alone_distinct _;
        processed = one (IsProcessed (λ identifier. identifier ≡ extended_key_usage)) e (λ c. inr refl);
        constraints = one (λ (e : Extension). e.identifier ≡ basic_constraints → HasConstraints e.value) e (λ same. absurd cc);
        usage = one (λ (e : Extension). e.identifier ≡ key_usage → HasUsage e.value) e (λ same. absurd cc);
      };
    }

pub twice : IsUsable no_identifier in_june (extended_by (extension basic_constraints false unconstrained ∷ extension basic_constraints false unconstrained ∷ [])) → ⊥
twice h = h.extensions.distinct 0 1 (extension basic_constraints false unconstrained) (lit< tt) (lit< tt) refl

-- elements of one identifier with equal octets have one content
same_content : (constructed : Bool) (tag : ℕ) (content held : List ℕ) → tag < 2 ^ 32 → length (element_octets (record { class = 0; constructed = constructed; tag = tag; content = held })) < 2 ^ 64
    → element_octets (record { class = 0; constructed = constructed; tag = tag; content = content }) ≡ element_octets (record { class = 0; constructed = constructed; tag = tag; content = held }) → content ≡ held
same_content constructed tag content held below small same =
    let e : Element = record { class = 0; constructed = constructed; tag = tag; content = content } in
    let f : Element = record { class = 0; constructed = constructed; tag = tag; content = held } in
    let long : length (element_octets e) ≡ length (strict_header (head_of_element e)) + length content = length-append (strict_header (head_of_element e)) content in
    let long' : length (element_octets f) ≡ length (strict_header (head_of_element f)) + length held = length-append (strict_header (head_of_element f)) held in
    let size : length (element_octets e) ≡ length (element_octets f) = ap length same in
    let r = one_element_lem e f [] [] (record { class = lit< tt; tag = below; size = omega arith }) (record { class = lit< tt; tag = below; size = omega arith }) (ap (λ s. s ++ []) same) in
    ap (λ (e : Element). e.content) r.0

no_default : (n : Option Number) (ca : Bool) → flag_octets ca ++ optional_octets number_octets n ≡ 1 ∷ 1 ∷ 0 ∷ [] → ⊥
no_default n true same = let third = ap (λ (s : List ℕ). get_or s 2 0) same in omega arith
no_default None false same = let first = ap (λ (s : List ℕ). get_or s 0 0) same in omega arith
no_default (Some n) false same = let first = ap (λ (s : List ℕ). get_or s 0 0) same in omega arith

pub default_is_written : IsUsable no_identifier in_june (extended_by (extension basic_constraints false default_written ∷ [])) → ⊥
unfolding EachUnder basic_constraints_octets
default_is_written h =
    let c = h.extensions.constraints 0 (extension basic_constraints false default_written) (lit< tt) refl in
    let b = c.0 in
    no_default b.path_len b.ca (same_content true 16 _ (1 ∷ 1 ∷ 0 ∷ []) (lit< tt) (lit< tt) (sym c.1.spelled))

abbrev zero_length : BasicConstraints
zero_length = record { ca = true; path_len = Some (0 ∷ []) }

authority_written : IsBasicConstraints path_length_zero.value zero_length
unfolding basic_constraints_octets
authority_written = record { in_range = record { number = record { shortest = refl; sign = refl }; small = lit< tt }; spelled = refl }

pub authority_is_fit : IsFitIssuer no_identifier in_june authority_b
unfolding EachUnder SomeUnder IsWithout IsProcessed
authority_is_fit = record {
  usable = record {
    valid = june_valid;
    extensions = record {
      distinct = alone_distinct path_length_zero;
      processed = one (IsProcessed no_identifier) path_length_zero (λ c. inl (inl refl));
      constraints = one (λ (e : Extension). e.identifier ≡ basic_constraints → HasConstraints e.value) path_length_zero (λ same. (zero_length, authority_written));
      usage = one (λ (e : Extension). e.identifier ≡ key_usage → HasUsage e.value) path_length_zero (λ same. absurd cc);
    };
  };
  issues = record {
    authority = (path_length_zero, (0, lit< tt, refl), refl, (zero_length, authority_written, refl));
    signer = one (λ (e : Extension). e.identifier ≡ key_usage → IsSigner e.value) path_length_zero (λ same. absurd cc);
    no_name_constraints = one (λ (e : Extension). e.identifier ≢ name_constraints) path_length_zero (λ same. cc);
    no_policy_constraints = one (λ (e : Extension). e.identifier ≢ policy_constraints) path_length_zero (λ same. cc);
  };
}

pub limit_is_zero : path_limit authority_b ≡ UpTo 0
limit_is_zero = refl

pub length_is_zero : SomeUnder basic_constraints (HasPathLen (Some 0)) authority_b.extensions
unfolding SomeUnder
length_is_zero = (path_length_zero, (0, lit< tt, refl), refl, (zero_length, authority_written, refl, refl))

abbrev sign_bits : Bits
sign_bits = record { unused = 2; octets = 4 ∷ [] }

sign_usage : IsKeyUsage signing sign_bits
sign_usage = record { usage = record { in_range = refl; known = omega arith; trimmed = ([], 4, refl, refl) }; spelled = refl }

apart_at : (x y : Extension) → x.identifier ≢ y.identifier → (i j : ℕ) (d : Extension) → i < j → j < 2 → (get_or (x ∷ y ∷ []) i d).identifier ≢ (get_or (x ∷ y ∷ []) j d).identifier
apart_at x y n zero (suc zero) d below within = n
apart_at x y n zero zero d below within = absurd (omega arith)
apart_at x y n (suc i) zero d below within = absurd (omega arith)
apart_at x y n (suc i) (suc j) d below within = absurd (omega arith)
apart_at x y n zero (suc (suc j)) d below within = absurd (omega arith)

apart : AreDistinct (path_length_zero ∷ extension key_usage false signing ∷ [])
apart = apart_at path_length_zero (extension key_usage false signing) (λ same. cc)

pub signer_is_fit : IsFitIssuer no_identifier in_june (authority_with_usage signing)
unfolding EachUnder SomeUnder IsWithout IsProcessed
signer_is_fit =
    let z = path_length_zero in
    let u = extension key_usage false signing in
    record {
      usable = record {
        valid = june_valid;
        extensions = record {
          distinct = apart;
          processed = two (IsProcessed no_identifier) z u (λ c. inl (inl refl)) (λ c. inl (inr refl));
          constraints = two (λ (e : Extension). e.identifier ≡ basic_constraints → HasConstraints e.value) z u (λ same. (zero_length, authority_written)) (λ same. absurd cc);
          usage = two (λ (e : Extension). e.identifier ≡ key_usage → HasUsage e.value) z u (λ same. absurd cc) (λ same. (sign_bits, sign_usage));
        };
      };
      issues = record {
        authority = (z, (0, lit< tt, refl), refl, (zero_length, authority_written, refl));
        signer = two (λ (e : Extension). e.identifier ≡ key_usage → IsSigner e.value) z u (λ same. absurd cc) (λ same. (sign_bits, sign_usage, refl));
        no_name_constraints = two (λ (e : Extension). e.identifier ≢ name_constraints) z u (λ same. cc) (λ same. cc);
        no_policy_constraints = two (λ (e : Extension). e.identifier ≢ policy_constraints) z u (λ same. cc) (λ same. cc);
      };
    }

pub encipherer_is_not : IsFitIssuer no_identifier in_june (authority_with_usage encipherment) → ⊥
unfolding EachUnder
encipherer_is_not h =
    let s = h.issues.signer 1 path_length_zero (lit< tt) refl in
    let b = s.0 in
    let content : b.unused ∷ b.octets ≡ 5 ∷ 0xa0 ∷ [] = same_content false 3 (b.unused ∷ b.octets) (5 ∷ 0xa0 ∷ []) (lit< tt) (lit< tt) (sym s.1.spelled) in
    let bit = subst (λ (t : List ℕ). get_or t 0 0 / 4 % 2 ≡ 1) (ap (drop 1) content) s.2 in
    omega arith
