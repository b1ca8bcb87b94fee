-- What the types of `items` are values of.
use Rattle.std.specs.Prelude.{◌≡◌, ℕ, Bool, List}
use Rattle.cert_model.specs.Fields.{CivilTime, Certificate, RevocationList}
use Rattle.cert_model.specs.Class.{certificate, list, other}
use Rattle.cert_model.specs.View.{certificate_view, list_view, time_view}
use Rattle.jiff_core.specs.declared.civil.datetime.DateTime.{DateTime}
use Rattle.cert_judge.specs.declared.items.CertificateItem.{CertificateItem}
use Rattle.cert_judge.specs.declared.items.ListItem.{ListItem}
use Rattle.cert_judge.specs.declared.items.ReadItem.{ReadItem}
use Rattle.cert_judge.specs.declared.items.ReadItem.TheVariants.{Certificate as certificate_read, List as list_read, Other as other_read}
use Rattle.cert_judge.specs.Revoking.{Item, JudgingContext, IsCurrent, IsPlain}
use Rattle.cert_judge.specs.Vouching.{Vouching}

abbrev pub certificate_of : CertificateItem → Certificate
certificate_of x = certificate_view x.fields

abbrev pub list_of : ListItem → RevocationList
list_of x = list_view x.fields

abbrev pub certificate_item : CertificateItem → Item
certificate_item x = record { octets = x.octets.now; class = certificate (certificate_of x) }

abbrev pub list_item : ListItem → Item
list_item x = record { octets = x.octets.now; class = list (list_of x) }

abbrev pub item_of : ReadItem → Item
item_of (certificate_read x) = certificate_item x
item_of (list_read x) = list_item x
item_of (other_read octets) = record { octets = octets.now; class = other }

abbrev pub rules_at : CivilTime → Bool → Vouching → JudgingContext
rules_at moment demand v = record { moment = moment; demand_lists = demand; Vouches = v.Vouches; Processes = v.Processes }

abbrev pub rules_by : DateTime → Bool → Vouching → JudgingContext
rules_by moment demand v = rules_at (time_view moment) demand v

-- The code's list is used under a name and key.
pub record IsUsed (v : Vouching) (moment : DateTime) (name key : List ℕ) (x : ListItem) : Type 0 where
  pub issuer : x.issuer.now ≡ name
  pub vouched : v.Vouches key x.octets.now
  pub current : IsCurrent (time_view moment) (list_of x)
  pub plain : IsPlain (list_of x)

-- an item is a list with a property
abbrev pub IsListWith : (ListItem → Type 0) → ReadItem → Type 0
IsListWith P (certificate_read x) = ⊥
IsListWith P (list_read x) = P x
IsListWith P (other_read octets) = ⊥
