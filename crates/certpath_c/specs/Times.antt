-- What `certpath_times` returns.
use Rattle.std.specs.Prelude.{◌≡◌, ◌⊎◌, ℕ, ℤ, pos, List, Option, Some, None}
use Rattle.cert_model.specs.Class.{Class, certificate, list, other, IsClassOf}
use Rattle.cert_model.specs.Fields.{CivilTime}
use Rattle.certpath_c.specs.declared.times.Moment.{Moment}
use Rattle.certpath_c.specs.declared.times.Validity.{Validity}
use Rattle.certpath_c.specs.Status.{done, out_of_memory, no_field}

-- the structure holds this date and time
pub record IsRow (t : CivilTime) (m : Moment) : Type 0 where
  pub year : m.year ≡ t.year
  pub month : m.month ≡ pos t.month
  pub day : m.day ≡ pos t.day
  pub hour : m.hour ≡ pos t.hour
  pub minute : m.minute ≡ pos t.minute
  pub second : m.second ≡ pos t.second

-- when the next list is due, if that is given; else the first time again
abbrev pub IsNext : Option CivilTime → Validity → Type 0
IsNext None v = (v.last ≡ v.first) × (v.has_last ≡ 0)
IsNext (Some t) v = IsRow t v.last × (v.has_last ≡ 1)

abbrev pub IsValidityOf : Class → Validity → Type 0
IsValidityOf (certificate c) v = IsRow c.not_before v.first × IsRow c.not_after v.last × (v.has_last ≡ 1)
IsValidityOf (list l) v = IsRow l.this_update v.first × IsNext l.next_update v
IsValidityOf other v = ⊥

-- the times of the class that the item has
pub record IsTimed (item : List ℕ) (v : Validity) : Type 0 where
  pub class : Class
  pub is_class : IsClassOf item class
  pub times : IsValidityOf class v

abbrev pub TimesAnswer : List ℕ → Validity → Validity → ℤ → Type 0
TimesAnswer item v v' status =
    ((status ≡ done) × IsTimed item v') ⊎ ((status ≡ no_field) × IsClassOf item other × (v' ≡ v)) ⊎ ((status ≡ out_of_memory) × (v' ≡ v))
