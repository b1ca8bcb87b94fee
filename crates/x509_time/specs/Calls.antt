-- What the calls on times and validities answer.
use Rattle.std.specs.Prelude.{◌≡◌, ◌⊎◌, ℤ, pos, ◌+ℤ◌, ◌-ℤ◌, ◌*ℤ◌, ◌<ℤ◌, ◌≤ℤ◌, int_lt, Bool, true, Option, Some, None, Result, Ok, Err}
use Rattle.jiff.specs.Words.{civil_nanos, IsCivilNanos, signed_nanos}
use Rattle.jiff_core.specs.declared.civil.datetime.DateTime.{DateTime}
use Rattle.jiff_duration.specs.declared.signed_duration.SignedDuration.{SignedDuration}
use Rattle.x509_core.specs.declared.error.X509Error.{X509Error}
use Rattle.x509_core.specs.declared.error.X509Error.TheVariants as errors
use Rattle.x509_time.specs.Times.{Time, Period}
use Rattle.x509_time.specs.declared.time.ASN1Time.{ASN1Time}

-- from the year 2050 on a time is written as GeneralizedTime (RFC 5280, 4.1.2.5)
abbrev pub is_late : DateTime → Bool
is_late moment = int_lt (pos 2049) moment.date.year

-- the time of a moment, in the form that the year asks for
abbrev pub time_of : DateTime → ASN1Time
time_of moment = record { time = moment; generalized = is_late moment }

-- the time of these nanoseconds, in the form that the year asks for
pub record IsTimeOf (nanoseconds : ℤ) (t : ASN1Time) : Type 0 where
  pub moment : civil_nanos t.time ≡ nanoseconds
  pub form : t.generalized ≡ is_late t.time

-- such a time, or none if the calendar lacks the moment
abbrev pub GivesTimeOf : ℤ → Option ASN1Time → Type 0
GivesTimeOf n (Some t) = IsTimeOf n t
GivesTimeOf n None = IsCivilNanos n → ⊥

-- such a time; `InvalidDate` if the calendar lacks the moment
abbrev pub ReadsTimeOf : ℤ → Result ASN1Time X509Error → Type 0
ReadsTimeOf n (Ok t) = IsTimeOf n t
ReadsTimeOf n (Err e) = (e ≡ errors.InvalidDate) × (IsCivilNanos n → ⊥)

-- the seconds since 1970 began, a fraction being dropped downwards
abbrev pub AreSeconds : ℤ → ℤ → Type 0
AreSeconds nanoseconds n =
    ((n *ℤ pos 1_000_000_000) ≤ℤ nanoseconds) × (nanoseconds <ℤ ((n +ℤ pos 1) *ℤ pos 1_000_000_000))

-- how much later a moment is than another, or none if it isn't later
abbrev pub GivesLater : ℤ → ℤ → Option SignedDuration → Type 0
GivesLater later earlier (Some d) = (earlier <ℤ later) × (signed_nanos d ≡ later -ℤ earlier)
GivesLater later earlier None = later ≤ℤ earlier

-- the order of times: that of moments, and at one moment a UTCTime before a GeneralizedTime
abbrev pub IsAtMost : Time → Time → Type 0
IsAtMost a b = (a.nanoseconds <ℤ b.nanoseconds) ⊎ ((a.nanoseconds ≡ b.nanoseconds) × (a.generalized ≡ true → b.generalized ≡ true))

-- the time lies in the validity, its ends included
abbrev pub IsWithin : Period → Time → Type 0
IsWithin v t = IsAtMost v.not_before t × IsAtMost t v.not_after

-- how long a validity goes on after a time that lies in it, the last moment left out
abbrev pub GivesLeft : Period → Time → Option SignedDuration → Type 0
GivesLeft v t (Some d) = IsWithin v t × (t.nanoseconds <ℤ v.not_after.nanoseconds) × (signed_nanos d ≡ v.not_after.nanoseconds -ℤ t.nanoseconds)
GivesLeft v t None = (IsWithin v t × (t.nanoseconds <ℤ v.not_after.nanoseconds)) → ⊥
