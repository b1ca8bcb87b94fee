-- Revocation lists: which are used, and whom they revoke (RFC 5280, 5 and 6.3, as far as this
-- profile goes).
use Rattle.std.specs.Prelude.{◌≡◌, ℕ, Bool, true, false, List, All, Any, Contains, Some}
use Rattle.cert_model.specs.Fields.{Number, CivilTime, Extension, Entry, RevocationList}
use Rattle.cert_model.specs.Octets.{name_octets}
use Rattle.cert_model.specs.Class.{Class, list}
use Rattle.cert_judge.specs.Moments.{IsBetween}

-- An item and its class.
pub record Item : Type 0 where
  pub octets : List ℕ
  pub class : Class

-- no extension is critical
abbrev pub AreUncritical : List Extension → Type 0
AreUncritical es = All (λ e. e.critical ≡ false) es

-- A list is current: it has a next update, which is not past.
pub record IsCurrent (moment : CivilTime) (l : RevocationList) : Type 0 where
  pub next : CivilTime
  pub told : l.next_update ≡ Some next
  pub between : IsBetween l.this_update moment next

-- nothing in a list says that it must not be read as it is (RFC 5280, 5.2 and 5.3)
pub record IsPlain (l : RevocationList) : Type 0 where
  pub extensions : AreUncritical l.extensions
  pub entries : All (λ (n : Entry). AreUncritical n.extensions) l.entries

-- What is judged by: a moment, whether lists are demanded, and what is vouched for and processed.
pub record JudgingContext : Type 1 where
  pub moment : CivilTime
  pub demand_lists : Bool
  pub Vouches : List ℕ → List ℕ → Type 0
  pub Processes : List ℕ → List ℕ → Type 0

-- A list is used under a name and key.
pub record IsUsedList (r : JudgingContext) (name key : List ℕ) (item : Item) (l : RevocationList) : Type 0 where
  pub is_list : item.class ≡ list l
  pub issuer : name_octets l.issuer ≡ name
  pub vouched : r.Vouches key item.octets
  pub current : IsCurrent r.moment l
  pub plain : IsPlain l

-- some list is used under a name and key
abbrev pub HasUsedList : JudgingContext → List Item → List ℕ → List ℕ → Type 0
HasUsedList r items name key = (x : Item) × (l : RevocationList) × Contains items x × IsUsedList r name key x l

-- a used list has an entry of this serial number
abbrev pub IsRevoked : JudgingContext → List Item → List ℕ → List ℕ → Number → Type 0
IsRevoked r items name key serial =
    (x : Item) × (l : RevocationList) × Contains items x × IsUsedList r name key x l × Any (λ (n : Entry). n.serial ≡ serial) l.entries

-- A certificate of this serial number is left valid under a name and key.
pub record IsSatisfied (r : JudgingContext) (items : List Item) (name key : List ℕ) (serial : Number) : Type 0 where
  pub kept : IsRevoked r items name key serial → ⊥
  pub listed : r.demand_lists ≡ true → HasUsedList r items name key
