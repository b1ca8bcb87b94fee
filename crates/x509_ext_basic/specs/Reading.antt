-- The readers of this crate as functions on octets. What they read is defined in `Leaves`; laws tie
-- each function to it.
use Rattle.std.specs.Prelude.{ℕ, ℤ, pos, int_le, ◌==◌, ◌&&◌, ◌||◌, not, nat_lt, nat_le, Bool, true, false, if◌then◌else◌, List, [], ◌∷◌, length, Option, Some, None, option_map, option_and_then, Ok, Err}
use Rattle.std.specs.Int.Digits.{number_from_digits}
use Rattle.std.specs.List.{list_all}
use Rattle.asn1_core.specs.Elements.{Element}
use Rattle.asn1_any.specs.Cutting.{Piece}
use Rattle.asn1_strings.specs.Charsets.{is_below_80}
use Rattle.asn1_traits.specs.IntegerReading.{is_shortest}
use Rattle.x509_core.specs.Answers.{Answer, unnamed, plain, ◌>>=◌}
use Rattle.x509_core.specs.Reading.{Reader, leaf_in, next}
use Rattle.x509_items.specs.Reading.{text_in}
use Rattle.x509_ext_flags.specs.Reading.{number_in}
use Rattle.x509_time.specs.Reading.{general_nanos_at}
use Rattle.x509_time.specs.Times.{Time}
use Rattle.x509_ext_basic.specs.Values as values

-- the first bit isn't set
abbrev pub starts_low : List ℕ → Bool
starts_low [] = false
starts_low (x ∷ s) = nat_lt x 128

-- a number that isn't negative, in the fewest octets
unfoldable pub natural_in : List ℕ → Option ℕ
natural_in content =
    if is_shortest content then (if starts_low content then Some (number_from_digits 256 content) else None) else None

abbrev pub element_natural : Element → Answer ℕ
element_natural e = leaf_in 2 e >>= λ content. plain (natural_in content)

abbrev pub natural_of : Piece → Answer ℕ
natural_of p = element_natural p.element

abbrev pub number_at : Reader ℕ
number_at = next natural_of

-- a number to 10
unfoldable pub reason_in : List ℕ → Option ℕ
reason_in content = option_and_then (λ n. if nat_lt 10 n then None else Some n) (number_in content)

abbrev pub element_reason : Element → Answer ℕ
element_reason e = leaf_in 10 e >>= λ content. plain (reason_in content)

abbrev pub reason_of : Piece → Answer ℕ
reason_of p = element_reason p.element

abbrev pub reason_at : Reader ℕ
reason_at = next reason_of

-- the time of a moment, as GeneralizedTime from the year 2050 on
abbrev pub time_from : ℤ → Time
time_from n = record { nanoseconds = n; generalized = int_le (pos 2_524_608_000_000_000_000) n }

unfoldable pub moment_in : List ℕ → Option Time
moment_in content = option_map time_from (general_nanos_at content)

abbrev pub element_date : Element → Answer Time
element_date e = leaf_in 24 e >>= λ content. plain (moment_in content)

abbrev pub date_of : Piece → Answer Time
date_of p = element_date p.element

abbrev pub date_at : Reader Time
date_at = next date_of

-- octets below 80 hex
abbrev pub ia5_in : List ℕ → Answer (List ℕ)
ia5_in content = if list_all is_below_80 content then text_in content else Err unnamed

abbrev pub element_ia5 : Element → Answer (List ℕ)
element_ia5 e = leaf_in 22 e >>= ia5_in

abbrev pub ia5_of : Piece → Answer (List ℕ)
ia5_of p = element_ia5 p.element

abbrev pub ia5_at : Reader (List ℕ)
ia5_at = next ia5_of

-- all octets, if they are UTF-8
abbrev pub bare_at : Reader (List ℕ)
bare_at i = text_in i >>= λ text. Ok (text, [])

-- an IA5String, or else all octets
abbrev pub comment_by : List ℕ → Answer (List ℕ × List ℕ) → Answer (List ℕ × List ℕ)
comment_by i (Ok r) = Ok r
comment_by i (Err e) = bare_at i

abbrev pub comment_at : Reader (List ℕ)
comment_at i = comment_by i (ia5_at i)

-- ---- BasicConstraints

-- the content of a constructed element of tag number 16
abbrev pub sequence_in : Element → Answer (List ℕ)
sequence_in e = if (e.tag == 16) && e.constructed then Ok e.content else Err unnamed

abbrev pub truth_by : ℕ → List ℕ → Option (Bool × List ℕ)
truth_by b s = if b == 0 then Some (false, s) else if b == 255 then Some (true, s) else None

abbrev pub flag_by : ℕ → ℕ → ℕ → List ℕ → Option (Bool × List ℕ)
flag_by t n b s = if (t == 1) && (n == 1) then truth_by b s else None

-- a BOOLEAN with its header, and the octets after it
unfoldable pub flag_at : List ℕ → Option (Bool × List ℕ)
flag_at [] = None
flag_at (t ∷ []) = None
flag_at (t ∷ n ∷ []) = None
flag_at (t ∷ n ∷ b ∷ s) = flag_by t n b s

-- an INTEGER or ENUMERATED with its header, to the end
unfoldable pub limit_in : List ℕ → Option ℕ
limit_in [] = None
limit_in (t ∷ []) = None
limit_in (t ∷ n ∷ s) = if ((t == 2) || (t == 10)) && (n == length s) then number_in s else None

abbrev pub with_limit : Bool → ℕ → values.BasicConstraints
with_limit ca n = record { ca = ca; path_len_constraint = Some n }

abbrev pub without_limit : Bool → values.BasicConstraints
without_limit ca = record { ca = ca; path_len_constraint = None }

-- after the flag
unfoldable pub behind_flag : Bool → List ℕ → Option values.BasicConstraints
behind_flag ca [] = Some (without_limit ca)
behind_flag ca (x ∷ s) = option_map (with_limit ca) (limit_in (x ∷ s))

-- after the flag, if one is there, else from the front on
abbrev pub parts_by : List ℕ → Option (Bool × List ℕ) → Option values.BasicConstraints
parts_by i (Some f) = behind_flag f.0 f.1
parts_by i None = behind_flag false i

unfoldable pub parts_in : List ℕ → Option values.BasicConstraints
parts_in i = parts_by i (flag_at i)

abbrev pub element_constraints : Element → Answer values.BasicConstraints
element_constraints e = sequence_in e >>= λ content. plain (parts_in content)

abbrev pub constraints_of : Piece → Answer values.BasicConstraints
constraints_of p = element_constraints p.element

abbrev pub constraints_at : Reader values.BasicConstraints
constraints_at = next constraints_of

-- any element
abbrev pub any_at : Reader Element
any_at = next (λ p. Ok p.element)
