-- What base64 decodes to is octets.
use Rattle.std.proofs.Common.{◌≡◌, ◌∙◌, sym, ap, subst, refl, ℕ, zero, suc, ◌+◌, ◌-◌, ◌*◌, ◌/◌, ◌%◌, ◌<◌, Bool, true, false, List, [], ◌∷◌, ◌++◌, length, take, drop, slice_index, Option, Some, None, Ok, Err, arith, inl, inr, ◌⊎◌}
use Rattle.std.proofs.lemmas.List.{length-drop, nil_from_length}
use Rattle.std.proofs.lemmas.Bool.{cases_lt}
use Rattle.std.specs.declared.result.Result.{Result}
use Rattle.std.specs.Prelude.{if◌then◌else◌}
use Rattle.std.specs.List.{filter}
use Rattle.base64.specs.declared.decode.DecodeError.{DecodeError}
use Rattle.base64.specs.declared.engine.DecodePaddingMode.TheVariants.{RequireCanonical}
use Rattle.base64.specs.Decode.{or_else, symbol_error, group_error, group_bytes, groups_error, groups_bytes, groups_before_last, decode_group, decode_error, decode_outcome, decoded_bytes, lone_error, suffix_error, suffix_bytes, scan_last, no_leftover, leftover_bytes, IsDecodeTable}
use Rattle.base64.specs.Engines.{standard}
use Rattle.base64.specs.GeneralPurpose.{IsBytes, decode_of}
use Rattle.base64.proofs.Tables.{IsDecodeTable_from, are_tables_inverse}
use Rattle.base64.proofs.Canonical.{IsScanned-scan, decoded_bytes-nil}

pub no_bytes : IsBytes []
no_bytes zero = omega arith
no_bytes (suc i) = omega arith

bytes_cons : (a : ℕ) (s : List ℕ) → a < 256 → IsBytes s → IsBytes (a ∷ s)
bytes_cons a s h f zero = h
bytes_cons a s h f (suc i) = f i

pub bytes_append : (a b : List ℕ) → IsBytes a → IsBytes b → IsBytes (a ++ b)
bytes_append [] b f g = g
bytes_append (x ∷ a) b f g = bytes_cons x (a ++ b) (f 0) (bytes_append a b (λ k. f (suc k)) g)

pub bytes_take : (n : ℕ) (s : List ℕ) → IsBytes s → IsBytes (take n s)
bytes_take zero s f = no_bytes
bytes_take (suc n) [] f = no_bytes
bytes_take (suc n) (a ∷ s) f = bytes_cons a (take n s) (f 0) (bytes_take n s (λ k. f (suc k)))

pub bytes_drop : (n : ℕ) (s : List ℕ) → IsBytes s → IsBytes (drop n s)
bytes_drop zero s f = f
bytes_drop (suc n) [] f = no_bytes
bytes_drop (suc n) (a ∷ s) f = bytes_drop n s (λ k. f (suc k))

if_bytes : (t : Bool) (a : ℕ) (s : List ℕ) → a < 256 → IsBytes s → IsBytes (if t then a ∷ s else s)
if_bytes true a s h f = bytes_cons a s h f
if_bytes false a s h f = f

pub bytes_filter : (p : ℕ → Bool) (s : List ℕ) → IsBytes s → IsBytes (filter p s)
bytes_filter p [] f = no_bytes
bytes_filter p (a ∷ s) f = if_bytes (p a) a (filter p s) (f 0) (bytes_filter p s (λ k. f (suc k)))

-- a first error that is none
none_both : (x y : Option DecodeError) → or_else x y ≡ None → (x ≡ None) × (y ≡ None)
none_both None y e = (refl, e)
none_both (Some x) y e = cc e

value_below : (dec s : List ℕ) (i : ℕ) → IsDecodeTable dec → slice_index s i < 256 → symbol_error dec s i ≡ None → slice_index dec (slice_index s i) < 64
value_below dec s i table byte none = elim (table (slice_index s i) byte) [
  | inl bad ↦ cc (rw bad at none)
  | inr small ↦ small
]

group_is_bytes : (m0 m1 m2 m3 : ℕ) → m0 < 64 → m1 < 64 → m2 < 64 → m3 < 64 → IsBytes (decode_group m0 m1 m2 m3)
group_is_bytes m0 m1 m2 m3 a b c d =
    let x : ℕ = m0 * 4 + m1 / 16 in
    let y : ℕ = m1 % 16 * 16 + m2 / 4 in
    let z : ℕ = m2 % 4 * 64 + m3 in
    bytes_cons x (y ∷ z ∷ []) (omega arith) (bytes_cons y (z ∷ []) (omega arith) (bytes_cons z [] (omega arith) no_bytes))

one_group : (dec s : List ℕ) (i : ℕ) → IsDecodeTable dec → IsBytes s → group_error dec s i ≡ None → IsBytes (group_bytes dec s i)
one_group dec s i table bytes none =
    let p0 = none_both (symbol_error dec s i) _ none in
    let p1 = none_both (symbol_error dec s (i + 1)) _ p0.1 in
    let p2 = none_both (symbol_error dec s (i + 2)) (symbol_error dec s (i + 3)) p1.1 in
    group_is_bytes _ _ _ _ (value_below dec s i table (bytes i) p0.0) (value_below dec s (i + 1) table (bytes (i + 1)) p1.0)
    (value_below dec s (i + 2) table (bytes (i + 2)) p2.0) (value_below dec s (i + 3) table (bytes (i + 3)) p2.1)

groups_are_bytes : (dec s : List ℕ) (q : ℕ) → IsDecodeTable dec → IsBytes s → groups_error dec s q ≡ None → IsBytes (groups_bytes dec s q)
unfolding groups_error groups_bytes
groups_are_bytes dec s zero table bytes none = no_bytes
groups_are_bytes dec s (suc q) table bytes none =
    let parts = none_both (groups_error dec s q) (group_error dec s (4 * q)) none in
    bytes_append (groups_bytes dec s q) (group_bytes dec s (4 * q)) (groups_are_bytes dec s q table bytes parts.0) (one_group dec s (4 * q) table bytes parts.1)

zeros_below : (k : ℕ) → slice_index (0 ∷ 0 ∷ 0 ∷ 0 ∷ []) k < 64
zeros_below zero = omega arith
zeros_below (suc zero) = omega arith
zeros_below (suc (suc zero)) = omega arith
zeros_below (suc (suc (suc zero))) = omega arith
zeros_below (suc (suc (suc (suc k)))) = omega arith

result_cases : {X E : Type 0} (r : Result X E) → ((x : X) × (r ≡ Ok x)) ⊎ ((e : E) × (r ≡ Err e))
result_cases (Ok x) = inl (x, refl)
result_cases (Err e) = inr (e, refl)

outcome_ok : (x : Option DecodeError) (d b : List ℕ) → decode_outcome x d ≡ Ok b → (x ≡ None) × (d ≡ b)
outcome_ok None d b h = (refl, cc h)
outcome_ok (Some e) d b h = cc h

abbrev dec : List ℕ
dec = standard.decode_table

abbrev pad : ℕ
pad = standard.padding.value

bytes_without_error : (s : List ℕ) → IsBytes s → decode_error dec pad false RequireCanonical s ≡ None → IsBytes (decoded_bytes dec pad s)
bytes_without_error s bytes none = elim (cases_lt 0 (length s)) [
  | inl some ↦
      let q : ℕ = groups_before_last (length s) in
      let table = IsDecodeTable_from standard.encode_table dec (are_tables_inverse standard.encode_table dec pad standard.tables) in
      let p0 = none_both (lone_error dec pad s) (or_else (groups_error dec s q) (suffix_error dec pad false RequireCanonical (4 * q) s)) none in
      let p1 = none_both (groups_error dec s q) (suffix_error dec pad false RequireCanonical (4 * q) s) p0.1 in
      elim (result_cases (scan_last dec pad (4 * q) s)) [
        | inl ok ↦
            let rest : List ℕ = drop (4 * q) s in
            let size : length rest ≡ length s - 4 * q = length-drop (4 * q) s in
            let held = IsScanned-scan standard.encode_table dec rest pad (4 * q) rest no_leftover ok.0 0
            (are_tables_inverse standard.encode_table dec pad standard.tables) (bytes_drop (4 * q) s bytes) (omega arith) (omega arith) refl
            ((refl, refl, λ j lt. absurd (omega arith), λ j low lt. absurd (omega arith)), (omega arith, omega arith, omega arith, zeros_below)) ok.1 in
            let small = held.1.3 in
            let group = group_is_bytes (slice_index ok.0.morsels 0) (slice_index ok.0.morsels 1) (slice_index ok.0.morsels 2) (slice_index ok.0.morsels 3) (small 0) (small 1) (small 2) (small 3) in
            let last : suffix_bytes dec pad (4 * q) s ≡ leftover_bytes ok.0 = rw ok.1 refl in
            bytes_append (groups_bytes dec s q) (suffix_bytes dec pad (4 * q) s) (groups_are_bytes dec s q table bytes p1.0)
            (subst IsBytes (sym last) (bytes_take (ok.0.morsels_count * 6 / 8) _ group))
        | inr err ↦ cc (rw err.1 at p1.1)
      ]
  | inr empty ↦
      let e : s ≡ [] = nil_from_length s (omega arith) in
      subst IsBytes (sym (ap (decoded_bytes dec pad) e ∙ decoded_bytes-nil dec pad)) no_bytes
]

pub decoded_is_bytes : (s b : List ℕ) → IsBytes s → decode_of standard s ≡ Ok b → IsBytes b
decoded_is_bytes s b bytes ok =
    let parts = outcome_ok (decode_error dec pad false RequireCanonical s) (decoded_bytes dec pad s) b ok in
    subst IsBytes parts.1 (bytes_without_error s bytes parts.0)
