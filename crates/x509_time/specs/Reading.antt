-- Functions that return what the readers do. The meaning is defined in `Times` and `Updates`; laws
-- tie each function to it.
use Rattle.std.specs.Prelude.{◌≡◌, ℕ, ℤ, ◌%◌, ◌==◌, ◌&&◌, ◌||◌, not, nat_le, Bool, true, false, if◌then◌else◌, List, [], ◌∷◌, length, Option, Some, None, option_map, option_and_then, is_some, Ok, Err}
use Rattle.std.specs.List.{list_all}
use Rattle.asn1_core.specs.Elements.{Element}
use Rattle.asn1_core.specs.Strict.{Head}
use Rattle.asn1_times.specs.Moments.{full_year}
use Rattle.asn1_times.specs.Readers.{utc_time_at, der_generalized_time_at, moment_at}
use Rattle.x509_core.specs.Answers.{Answer, named, plain, naming, ◌>>=◌}
use Rattle.x509_core.specs.Reading.{Reader, first_piece, front_header_at, next, content_in}
use Rattle.x509_core.specs.declared.error.X509Error.TheVariants as errors
use Rattle.x509_time.specs.Times.{Time, Period}

-- the moment of a UTCTime's content, if it is one's
unfoldable pub utc_nanos_at : List ℕ → Option ℤ
utc_nanos_at content = option_and_then (λ t. moment_at (full_year t.year) t) (utc_time_at content)

-- the moment of a GeneralizedTime's content, if it is one's
unfoldable pub general_nanos_at : List ℕ → Option ℤ
general_nanos_at content = option_and_then (λ t. moment_at t.year t) (der_generalized_time_at content)

abbrev pub time_of_nanos : Bool → ℤ → Time
time_of_nanos generalized n = record { nanoseconds = n; generalized = generalized }

-- Time
unfoldable pub time_in : Element → Option Time
time_in e =
    if e.constructed then None
    else if e.tag == 23 then option_map (time_of_nanos false) (utc_nanos_at e.content)
    else if e.tag == 24 then option_map (time_of_nanos true) (general_nanos_at e.content)
    else None

abbrev pub time_at : Reader Time
time_at i = naming errors.InvalidDate (next (λ p. plain (time_in p.element)) i)

-- Validity
unfoldable pub validity_in : Element → Answer Period
validity_in e = do
  content ← content_in 16 e
  b ← time_at content
  a ← time_at b.1
  Ok (record { not_before = b.0; not_after = a.0 })

abbrev pub validity_at : Reader Period
validity_at = next (λ p. validity_in p.element)

-- a GeneralizedTime, of whatever date
unfoldable pub is_general_time : Element → Bool
is_general_time e = (not e.constructed && (e.tag == 24)) && is_some (der_generalized_time_at e.content)

-- the octets end within a tag number
abbrev pub is_cut_tag : List ℕ → Bool
is_cut_tag [] = false
is_cut_tag (x ∷ s) = (x % 32 == 31) && list_all (nat_le 128) s

abbrev pub begins_general_time : Option Element → Bool
begins_general_time None = false
begins_general_time (Some e) = is_general_time e

-- a header that begins no time
abbrev pub is_other_header : Answer (Head × List ℕ) → Bool → Bool
is_other_header (Err e) general = false
is_other_header (Ok h) general =
    nat_le h.0.size 4_294_967_295 && not (h.0.tag == 23) && (not (h.0.tag == 24) || not general)

-- whether a time is absent if none is read
unfoldable pub is_absent : List ℕ → Bool
is_absent i = is_cut_tag i || is_other_header (front_header_at i) (begins_general_time (option_map (λ p. p.element) (first_piece i)))

abbrev pub update_by : Bool → List ℕ → Answer (Time × List ℕ) → Answer (Option Time × List ℕ)
update_by absent i (Ok t) = Ok (Some t.0, t.1)
update_by absent i (Err e) = if absent then Ok (None, i) else Err (named errors.InvalidDate)

-- the time of a next update, or none
unfoldable pub next_update_at : Reader (Option Time)
next_update_at i = if length i == 0 then Ok (None, i) else update_by (is_absent i) i (time_at i)

-- the time that was taken from the front, or that none is there
abbrev pub TakesTime : List ℕ → Option Time → List ℕ → Type 0
TakesTime old (Some t) new = time_at old ≡ Ok (t, new)
TakesTime old None new = (time_at old ≡ Err (named errors.InvalidDate)) × (new ≡ old)
