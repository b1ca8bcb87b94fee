-- The steps of a walk over indefinite contents, as its loop takes them.
use Rattle.std.proofs.Common.{◌≡◌, refl, sym, ◌∙◌, ap, subst, ℕ, zero, suc, ◌+◌, ◌-◌, ◌<◌, ◌≤◌, Bool, true, false, Option, Some, None, List, [], ◌∷◌, length, take, drop, Ok, Err, if◌then◌else◌, arith, length-append}
use Rattle.std.specs.Prelude.{nat_lt}
use Rattle.std.specs.Int.Digits.{AllBelowBase}
use Rattle.std.proofs.lemmas.List.{nil_from_length}
use Rattle.asn1_core.specs.declared.error.Error.{Error}
use Rattle.asn1_core.specs.declared.error.Error.TheVariants as errors
use Rattle.asn1_core.specs.declared.error.Needed.TheVariants as needed
use Rattle.asn1_core.specs.declared.outcome.Err.{Err as Refusal}
use Rattle.asn1_core.specs.declared.outcome.Err.TheVariants as refusals
use Rattle.asn1_core.specs.Lenient.{BerHead}
use Rattle.asn1_core.specs.Answers.{lack}
use Rattle.asn1_core.specs.Reading.{identity_at, ber_header_at}
use Rattle.asn1_core.proofs.Cases.{same_answer}
use Rattle.asn1_core.proofs.Numbers.{append_below}
use Rattle.asn1_core.proofs.Headers.{ber_header_found}
use Rattle.asn1_any.specs.Reading.{Rest, part_at, end_at, past_length, past_header, past_end, past_contents}
use Rattle.asn1_any.proofs.Readings.{part_found}
use Rattle.asn1_any.proofs.BerLaws.{end_is}
use Rattle.asn1_core.proofs.Long.{header_long}

-- the walk over all octets goes on with these
pub record GoesOn (top : ℕ) (octets : List ℕ) (levels nested : ℕ) (rest : List ℕ) : Type 0 where
  pub steps : ℕ
  pub enough : length rest ≤ steps
  pub deep : levels + nested ≡ top + 1
  pub below : AllBelowBase 256 rest
  pub same : past_contents (length octets) top 1 octets ≡ past_contents steps levels nested rest

pub starts : (top : ℕ) (octets : List ℕ) → AllBelowBase 256 octets → GoesOn top octets top 1 octets
starts top octets below = record { steps = length octets; enough = omega arith; deep = refl; below = below; same = refl }

-- no element is open
none_open : (steps levels : ℕ) (octets : List ℕ) → past_contents steps levels 0 octets ≡ Ok octets
unfolding past_contents
none_open zero levels octets = refl
none_open (suc steps) levels octets = refl

-- with a step to take and an element open
part_of : (steps levels nested : ℕ) (octets : List ℕ) → 0 < steps → 0 < nested →
    past_contents steps levels nested octets ≡ past_end (past_contents (steps - 1)) levels (nested - 1) octets (end_at octets)
unfolding past_contents
part_of zero levels nested octets some inner = absurd (omega arith)
part_of (suc steps) levels zero octets some inner = absurd (omega arith)
part_of (suc steps) levels (suc nested) octets some inner =
    let less : suc steps - 1 ≡ steps = omega arith in
    let outer : suc nested - 1 ≡ nested = omega arith in
    rw (less, outer) refl

refuse_step : (steps levels nested : ℕ) (octets : List ℕ) (d : Refusal Error) → length octets ≤ steps → 0 < nested → end_at octets ≡ None → ber_header_at octets ≡ Err d →
    past_contents steps levels nested octets ≡ Err d
unfolding past_contents ber_header_at identity_at
refuse_step steps levels zero octets d enough inner none read = absurd (omega arith)
refuse_step zero levels (suc nested) octets d enough inner none read =
    let empty = nil_from_length octets (omega arith) in
    let first : lack {A = BerHead} 1 ≡ Err d = ap ber_header_at (sym empty) ∙ read in
    let same : refusals.Incomplete (needed.Size 1) ≡ d = cc in
    ap Err same
refuse_step (suc steps) levels (suc nested) octets d enough inner none read = rw (none, read) refl

-- after a header, with a level left or without
level_step : (go : ℕ → ℕ → List ℕ → Rest) (levels nested : ℕ) (h : BerHead) (after : List ℕ) → 0 < levels →
    past_header go levels nested (Ok (h, after)) ≡ past_length go (levels - 1) nested h.size after
level_step go zero nested h after left = absurd (omega arith)
level_step go (suc levels) nested h after left = let less : suc levels - 1 ≡ levels = omega arith in rw less refl

cut_by : (b : Bool) (go : ℕ → ℕ → List ℕ → Rest) (levels nested n : ℕ) (after : List ℕ) (d : Refusal Error) → nat_lt (length after) n ≡ b →
    (if b then lack {A = List ℕ} (n - length after) else Ok (take n after, drop n after)) ≡ Err d → past_length go levels nested (Some n) after ≡ Err d
cut_by true go levels nested n after d short part =
    let same : refusals.Incomplete (needed.Size (n - length after)) ≡ d = cc in
    rw short (ap Err same)
cut_by false go levels nested n after d short part = cc

past_by : (b : Bool) (go : ℕ → ℕ → List ℕ → Rest) (levels nested n : ℕ) (after content behind : List ℕ) → nat_lt (length after) n ≡ b →
    (if b then lack {A = List ℕ} (n - length after) else Ok (take n after, drop n after)) ≡ Ok (content, behind) → past_length go levels nested (Some n) after ≡ go (suc levels) (suc nested) behind
past_by true go levels nested n after content behind short part = cc
past_by false go levels nested n after content behind short part =
    let both = same_answer (take n after) content (drop n after) behind part in
    rw short (ap (go (suc levels) (suc nested)) both.1)

module _ (top : ℕ) (octets rest : List ℕ) (levels nested : ℕ) (goes : GoesOn top octets levels nested rest) where
  pub done : nested ≡ 0 → past_contents (length octets) top 1 octets ≡ Ok rest
  done none = goes.same ∙ ap (λ m. past_contents goes.steps levels m rest) none ∙ none_open goes.steps levels rest

  pub closed : (after : List ℕ) → 0 < nested → end_at rest ≡ Some after → GoesOn top octets (levels + 1) (nested - 1) after
  closed after inner at =
      let is = end_is rest after at in
      let long = ap length is in
      let enough = goes.enough in
      let deep = goes.deep in
      let some : 0 < goes.steps = omega arith in
      let more : levels + 1 ≡ suc levels = omega arith in
      record {
        steps = goes.steps - 1;
        enough = omega arith;
        deep = omega arith;
        below = append_below 256 (0 ∷ 0 ∷ []) after (subst (AllBelowBase 256) is goes.below);
        same = goes.same ∙ part_of goes.steps levels nested rest some inner ∙ ap (past_end (past_contents (goes.steps - 1)) levels (nested - 1) rest) at
            ∙ ap (λ m. past_contents (goes.steps - 1) m (nested - 1) after) (sym more);
      }

  pub refused : (d : Refusal Error) → 0 < nested → end_at rest ≡ None → ber_header_at rest ≡ Err d → past_contents (length octets) top 1 octets ≡ Err d
  refused d inner none read = goes.same ∙ refuse_step goes.steps levels nested rest d goes.enough inner none read

  -- a header takes octets, so there is a step for it
  header_fits : (h : BerHead) (after : List ℕ) → ber_header_at rest ≡ Ok (h, after) → (length after + 2 ≤ length rest) × AllBelowBase 256 after
  header_fits h after read =
      let begins = ber_header_found rest h after goes.below read in
      let header = header_long begins.front h begins.spells in
      let long = ap length begins.whole in
      (omega (arith, length-append begins.front after), append_below 256 begins.front after (subst (AllBelowBase 256) begins.whole goes.below))

  behind_header : (h : BerHead) (after : List ℕ) → 0 < nested → end_at rest ≡ None → ber_header_at rest ≡ Ok (h, after) →
      past_contents (length octets) top 1 octets ≡ past_header (past_contents (goes.steps - 1)) levels (nested - 1) (Ok (h, after))
  behind_header h after inner none read =
      let fits = (header_fits h after read).0 in
      let enough = goes.enough in
      goes.same ∙ part_of goes.steps levels nested rest (omega arith) inner ∙ ap (past_end (past_contents (goes.steps - 1)) levels (nested - 1) rest) none
      ∙ ap (past_header (past_contents (goes.steps - 1)) levels (nested - 1)) read

  behind_length : (h : BerHead) (after : List ℕ) → 0 < nested → end_at rest ≡ None → ber_header_at rest ≡ Ok (h, after) → 0 < levels → (size : Option ℕ) → h.size ≡ size →
      past_contents (length octets) top 1 octets ≡ past_length (past_contents (goes.steps - 1)) (levels - 1) (nested - 1) size after
  behind_length h after inner none read left size is =
      behind_header h after inner none read ∙ level_step (past_contents (goes.steps - 1)) levels (nested - 1) h after left
      ∙ ap (λ s. past_length (past_contents (goes.steps - 1)) (levels - 1) (nested - 1) s after) is

  pub too_deep : (h : BerHead) (after : List ℕ) → 0 < nested → end_at rest ≡ None → ber_header_at rest ≡ Ok (h, after) → levels ≡ 0 →
      past_contents (length octets) top 1 octets ≡ Err (refusals.Error errors.BerMaxDepth)
  too_deep h after inner none read last =
      behind_header h after inner none read ∙ ap (λ m. past_header (past_contents (goes.steps - 1)) m (nested - 1) (Ok (h, after))) last

  pub cut : (h : BerHead) (after : List ℕ) (n : ℕ) (d : Refusal Error) → 0 < nested → end_at rest ≡ None → ber_header_at rest ≡ Ok (h, after) → 0 < levels →
      h.size ≡ Some n → part_at n after ≡ Err d → past_contents (length octets) top 1 octets ≡ Err d
  cut h after n d inner none read left size part =
      behind_length h after inner none read left (Some n) size ∙ cut_by (nat_lt (length after) n) (past_contents (goes.steps - 1)) (levels - 1) (nested - 1) n after d refl part

  pub past : (h : BerHead) (after : List ℕ) (n : ℕ) (content behind : List ℕ) → 0 < nested → end_at rest ≡ None → ber_header_at rest ≡ Ok (h, after) → 0 < levels →
      h.size ≡ Some n → part_at n after ≡ Ok (content, behind) → GoesOn top octets levels nested behind × (length behind < length rest)
  past h after n content behind inner none read left size part =
      let fits = header_fits h after read in
      let cuts = part_found n after content behind part in
      let long = ap length cuts.1 in
      let shorter : length behind < length rest = omega (arith, length-append content behind, fits.0) in
      let enough = goes.enough in
      let same_levels : suc (levels - 1) ≡ levels = omega arith in
      let same_nested : suc (nested - 1) ≡ nested = omega arith in (
        record {
          steps = goes.steps - 1;
          enough = omega arith;
          deep = goes.deep;
          below = append_below 256 content behind (subst (AllBelowBase 256) cuts.1 fits.1);
          same = behind_length h after inner none read left (Some n) size
              ∙ past_by (nat_lt (length after) n) (past_contents (goes.steps - 1)) (levels - 1) (nested - 1) n after content behind refl part
              ∙ ap (λ m. past_contents (goes.steps - 1) m (suc (nested - 1)) behind) same_levels
              ∙ ap (λ m. past_contents (goes.steps - 1) levels m behind) same_nested;
        },
        shorter,
      )

  pub into : (h : BerHead) (after : List ℕ) → 0 < nested → end_at rest ≡ None → ber_header_at rest ≡ Ok (h, after) → 0 < levels →
      h.size ≡ None → GoesOn top octets (levels - 1) (nested + 1) after × (length after < length rest)
  into h after inner none read left size =
      let fits = header_fits h after read in
      let enough = goes.enough in
      let deep = goes.deep in
      let deeper : suc (suc (nested - 1)) ≡ nested + 1 = omega arith in (
        record {
          steps = goes.steps - 1;
          enough = omega (arith, fits.0);
          deep = omega arith;
          below = fits.1;
          same = behind_length h after inner none read left None size ∙ ap (λ m. past_contents (goes.steps - 1) (levels - 1) m after) deeper;
        },
        omega (arith, fits.0),
      )
