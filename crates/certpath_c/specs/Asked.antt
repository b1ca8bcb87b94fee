-- What is asked of paths.
use Rattle.std.specs.Prelude.{◌≡◌, ◌⊎◌, ◌↔◌, ◌≤ℤ◌, ℕ, pos, Bool, not, List, [], ◌∷◌, nat_eq}
use Rattle.jiff_core.specs.Calendar.{IsDate}
use Rattle.jiff_core.specs.Time.{IsTime}
use Rattle.jiff_core.specs.declared.civil.datetime.DateTime.{DateTime}
use Rattle.sha2.specs.Sha256.{sha256}
use Rattle.cert_framing.specs.Framing.{IsFraming}
use Rattle.cert_framing.specs.Held.{Framed}
use Rattle.cert_judge.specs.declared.policy.Policy.{Policy}
use Rattle.cert_judge.specs.Vouching.{Vouching, vouching_alone}
use Rattle.cert_model.specs.View.{time_view}
use Rattle.cert_vouchers.specs.declared.vouchers.Vouchers.{Vouchers}
use Rattle.cert_vouchers.specs.Vouching.{HasPair}
use Rattle.certpath_c.specs.declared.asked.Settings.{Settings}
use Rattle.certpath_c.specs.declared.asked.Voucher.{Voucher}
use Rattle.certpath_c.specs.declared.times.Moment.{Moment}
use Rattle.certpath_c.specs.Times.{IsRow}

-- one of the structures holds both digests
abbrev pub HoldPair : List Voucher → List ℕ → List ℕ → Type 0
HoldPair [] key item = ⊥
HoldPair (v ∷ vs) key item = ((key ≡ v.key) × (item ≡ v.item)) ⊎ HoldPair vs key item

-- the pairs are those of the structures
abbrev pub ArePairs : List Voucher → Vouchers → Type 0
ArePairs vouchers pairs = (key item : List ℕ) → HasPair pairs.pairs key item ↔ HoldPair vouchers key item

-- one pair more, that of a structure
abbrev pub IsOnePairMore : Vouchers → Vouchers → Voucher → Type 0
IsOnePairMore old new v = (key item : List ℕ) → HasPair new.pairs key item ↔ (HasPair old.pairs key item ⊎ ((key ≡ v.key) × (item ≡ v.item)))

-- the pairs vouch for a key and an item whose SHA-256 digests are one of them
abbrev pub VouchesBy : Vouchers → Vouching
VouchesBy pairs = vouching_alone (λ key item. HasPair pairs.pairs (sha256 key) (sha256 item))

-- both files cut into items, and the pairs of the vouchers
pub record AreInputs (bundle anchors : List ℕ) (vouchers : List Voucher) (limit : ℕ) (items anchor_items : Framed) (pairs : Vouchers) : Type 0 where
  pub framing : IsFraming limit bundle items.items items.end
  pub anchors_framing : IsFraming limit anchors anchor_items.items anchor_items.end
  pub pairs_are : ArePairs vouchers pairs

-- a date of the calendar, and a time of a clock
abbrev pub IsCivil : Moment → Type 0
IsCivil m = IsDate m.year m.month m.day × IsTime m.hour m.minute m.second (pos 0)

-- a year that isn't negative, a date and a time
pub record IsMoment (m : Moment) : Type 0 where
  pub year : pos 0 ≤ℤ m.year
  pub civil : IsCivil m

abbrev pub IsNoMoment : Moment → Type 0
IsNoMoment m = ¬ IsMoment m

-- the date and time that the structure holds
pub record IsCivilOf (m : Moment) (t : DateTime) : Type 0 where
  pub row : IsRow (time_view t) m
  pub whole_second : t.time.subsec_nanosecond ≡ 0

-- the structure is a moment, and this is its date and time
pub record IsMomentOf (m : Moment) (t : DateTime) : Type 0 where
  pub is_moment : IsMoment m
  pub civil : IsCivilOf m t

-- whether lists are demanded
abbrev pub demands : Settings → Bool
demands settings = not (nat_eq settings.demands_lists 0)

pub record IsPolicyOf (settings : Settings) (policy : Policy) : Type 0 where
  pub moment : IsMomentOf settings.moment policy.moment
  pub demand : policy.demand_lists ≡ demands settings

-- the settings have a moment
abbrev pub HasPolicy : Settings → Type 0
HasPolicy settings = (policy : Policy) × IsPolicyOf settings policy
