-- The path length constraint of an authority lies where `path_limit` takes it from.
use Rattle.std.specs.Prelude.{IsTrue, nat_lt, nat_eq, if◌then◌else◌}
use Rattle.std.proofs.Common.{◌≡◌, ◌≢◌, ◌∙◌, ap, sym, subst, refl, zero, suc, ℕ, ◌+◌, ◌*◌, ◌^◌, ◌<◌, ◌≤◌, Bool, true, false, Option, Some, None, option_map, List, [], ◌∷◌, ◌++◌, length, arith, get_or, drop}
use Rattle.std.specs.Int.Digits.{number_from_digits_after}
use Rattle.std.specs.Cmp.Lexicographic.{pointwise}
use Rattle.std.proofs.lemmas.Bool.{lt-ltb}
use Rattle.std.proofs.lemmas.Int.Digits.{number_after_ge}
use Rattle.std.proofs.lemmas.Slice.Eq.{bytes_eq-Decides}
use Rattle.asn1_core.specs.Strict.{strict_length}
use Rattle.cert_model.specs.der_tree.specs.Table.{is_shortest}
use Rattle.cert_graph.specs.declared.reach.Reach.{Reach}
use Rattle.cert_graph.specs.declared.reach.Reach.TheVariants.{UpTo, Any}
use Rattle.cert_graph.specs.Reach.{reach_of}
use Rattle.cert_model.specs.Fields.{Number, CivilTime, Identifier, Extension, Certificate}
use Rattle.cert_model.specs.Octets.{sequence_octets, number_octets, optional_octets, flag_octets}
use Rattle.cert_model.specs.Range.{IfThere}
use Rattle.cert_model.specs.Extended.{SomeUnder, AreDistinct, basic_constraints}
use Rattle.cert_judge.specs.Constraints.{BasicConstraints, basic_constraints_octets, IsPathLength, IsBasicConstraints, value_of}
use Rattle.cert_judge.specs.Judging.{HasPathLen, IsFitIssuer}
use Rattle.cert_judge.specs.Further.{any_identifier}
use Rattle.cert_judge.specs.Limits.{first_value, path_limit}

later : (b : Bool) (here there rest : List ℕ) → (b ≡ true → ⊥) → rest ≡ there → (if b then here else rest) ≡ there
later true here there rest apart e = absurd (apart refl)
later false here there rest apart e = e

-- of extensions that are distinct, the one of an identifier is the first
first_is : (id : Identifier) (es : List Extension) (k : ℕ) (e : Extension) → k < length es → get_or es k e ≡ e → e.identifier ≡ id → AreDistinct es → first_value id es ≡ e.value
first_is id [] k e lt at under distinct = absurd (omega arith)
first_is id (x ∷ es) zero e lt at under distinct =
    let t : pointwise nat_eq x.identifier id ≡ true = (bytes_eq-Decides x.identifier id).1 (ap (λ (z : Extension). z.identifier) at ∙ under) in
    rw t (ap (λ (z : Extension). z.value) at)
first_is id (x ∷ es) (suc k) e lt at under distinct =
    let n : x.identifier ≢ e.identifier = subst (λ (z : Extension). x.identifier ≢ z.identifier) at (distinct 0 (suc k) e (omega arith) lt) in
    let rest : AreDistinct es = λ i j d below within. distinct (suc i) (suc j) d (omega arith) (omega arith) in
    later (pointwise nat_eq x.identifier id) x.value e.value (first_value id es) (λ t. n ((bytes_eq-Decides x.identifier id).0 t ∙ sym under)) (first_is id es k e (omega arith) at under rest)

-- the first two octets of the fewest make at least 128
front_large : (a b : ℕ) (s : List ℕ) → IsTrue (is_shortest (a ∷ b ∷ s)) → 128 ≤ a * 256 + b
front_large zero b s shortest = grind arith
front_large (suc a) b s shortest = omega arith

-- a number of 32 bits has at most five octets
pub few_digits : (n : Number) → IsTrue (is_shortest n) → value_of n < 2 ^ 32 → length n ≤ 5
few_digits [] shortest small = omega arith
few_digits (a ∷ []) shortest small = omega arith
few_digits (a ∷ b ∷ []) shortest small = omega arith
few_digits (a ∷ b ∷ c ∷ []) shortest small = omega arith
few_digits (a ∷ b ∷ c ∷ d ∷ []) shortest small = omega arith
few_digits (a ∷ b ∷ c ∷ d ∷ e ∷ []) shortest small = omega arith
few_digits (a ∷ b ∷ c ∷ d ∷ e ∷ f ∷ s) shortest small =
    let large = front_large a b (c ∷ d ∷ e ∷ f ∷ s) shortest in
    let more : (((((0 * 256 + a) * 256 + b) * 256 + c) * 256 + d) * 256 + e) * 256 + f ≤ number_from_digits_after 256 ((((((0 * 256 + a) * 256 + b) * 256 + c) * 256 + d) * 256 + e) * 256 + f) s = number_after_ge 256 _ s (omega arith) in
    let below : number_from_digits_after 256 ((((((0 * 256 + a) * 256 + b) * 256 + c) * 256 + d) * 256 + e) * 256 + f) s < 2 ^ 32 = small in
    absurd (omega arith)

short_length : (n : ℕ) → n < 128 → strict_length n ≡ n ∷ []
short_length n lt = rw (lt-ltb n 128 lt) refl

abbrev limit_in : List ℕ → Reach
limit_in value = if nat_lt 5 (length value) then UpTo (value_of (drop 7 value)) else Any

abbrev authority_octets : List ℕ → List ℕ
authority_octets rest = sequence_octets ((1 ∷ 1 ∷ 255 ∷ []) ++ rest)

limit_none : limit_in (authority_octets []) ≡ Any
limit_none = refl

pub number_short : (n : Number) → length n ≤ 5 → number_octets n ≡ 2 ∷ length n ∷ n
number_short n le = ap (λ z. (2 ∷ z) ++ n) (short_length (length n) (omega arith))

limit_at : (v : List ℕ) (size m : ℕ) (n : List ℕ) → v ≡ 0x30 ∷ size ∷ 1 ∷ 1 ∷ 255 ∷ 2 ∷ m ∷ n → limit_in v ≡ UpTo (value_of n)
limit_at v size m n e =
    let long : 5 < length (0x30 ∷ size ∷ 1 ∷ 1 ∷ 255 ∷ 2 ∷ m ∷ n) = omega arith in
    rw (e, lt-ltb 5 (length (0x30 ∷ size ∷ 1 ∷ 1 ∷ 255 ∷ 2 ∷ m ∷ n)) long) refl

limit_some : (n : Number) → length n ≤ 5 → limit_in (authority_octets (number_octets n)) ≡ UpTo (value_of n)
limit_some n le =
    let content = 1 ∷ 1 ∷ 255 ∷ 2 ∷ length n ∷ n in
    let size : length content < 128 = omega arith in
    let spelled : authority_octets (number_octets n) ≡ 0x30 ∷ length content ∷ content =
    ap authority_octets (number_short n le) ∙ ap (λ z. (0x30 ∷ z) ++ content) (short_length (length content) size) in
    limit_at (authority_octets (number_octets n)) (length content) (length n) n spelled

limit_of_value : (n : Option Number) → IfThere IsPathLength n → limit_in (authority_octets (optional_octets number_octets n)) ≡ reach_of (option_map value_of n)
limit_of_value None in_range = limit_none
limit_of_value (Some n) in_range = limit_some n (few_digits n in_range.number.shortest in_range.small)

spelled_by : (value : List ℕ) (b : BasicConstraints) → b.ca ≡ true → IsBasicConstraints value b → value ≡ authority_octets (optional_octets number_octets b.path_len)
unfolding basic_constraints_octets
spelled_by value b ca h = h.spelled ∙ ap (λ flag. sequence_octets (flag_octets flag ++ optional_octets number_octets b.path_len)) ca

-- the limit of a fit issuer is its path length constraint
pub limit_is : (moment : CivilTime) (c : Certificate) (n : Option ℕ) → IsFitIssuer any_identifier moment c → SomeUnder basic_constraints (HasPathLen n) c.extensions → path_limit c ≡ reach_of n
unfolding SomeUnder
limit_is moment c n fit s =
    let e = s.0 in
    let h = s.3 in
    let b = h.0 in
    let place = s.1 in
    let first = first_is basic_constraints c.extensions place.0 e place.1 place.2 s.2 fit.usable.extensions.distinct in
    ap limit_in (first ∙ spelled_by e.value b h.2 h.1) ∙ limit_of_value b.path_len h.1.in_range ∙ ap reach_of h.3
