-- Under whose keys a list is used. Contracts of private functions cite it.
use Rattle.std.specs.Prelude.{◌≡◌, ℕ, List, true, Some}
use Rattle.std.specs.Ordering.{nat_cmp}
use Rattle.std.specs.BTreeMap as mapped
use Rattle.std.specs.BTreeMap.{BTreeMap}
use Rattle.jiff_core.specs.declared.civil.datetime.DateTime.{DateTime}
use Rattle.cert_graph.specs.Entries.{IsAt}
use Rattle.cert_model.specs.Octets.{name_octets, key_octets}
use Rattle.cert_model.specs.View.{time_view}
use Rattle.cert_judge.specs.declared.items.ListItem.{ListItem}
use Rattle.cert_judge.specs.ItemGraph.{IsCertificateWith}
use Rattle.cert_judge.specs.Items.{list_of}
use Rattle.cert_judge.specs.Revoking.{Item, JudgingContext, HasUsedList, IsCurrent, IsPlain}
use Rattle.certpath_why.specs.Cuts.{IsCutOf}
use Rattle.certpath_why.specs.Ranges.{AreRanges}
use Rattle.certpath_why.specs.Reached.{HasSubject}
use Rattle.certpath_why.specs.declared.used.Used.{Used}

-- a list is current, and nothing in it says that it must not be read as it is
pub record IsCurrentAndPlain (moment : DateTime) (l : ListItem) : Type 0 where
  pub current : IsCurrent (time_view moment) (list_of l)
  pub plain : IsPlain (list_of l)

-- the certificate at a position has a name, and a list is used under that and its key
abbrev pub HasListAt : JudgingContext → List Item → List Item → List ℕ → ℕ → Type 0
HasListAt r items others name w = IsAt others w (IsCertificateWith (λ d. (name_octets d.subject ≡ name) × HasUsedList r items (name_octets d.subject) (key_octets d.key)))

-- lists are demanded, and none is
abbrev pub LacksListAt : JudgingContext → List Item → List Item → List ℕ → ℕ → Type 0
LacksListAt r items others name w = IsAt others w (IsCertificateWith (λ d. (name_octets d.subject ≡ name) × ((r.demand_lists ≡ true) × (HasUsedList r items (name_octets d.subject) (key_octets d.key) → ⊥))))

-- The certificates of a name, by whether a list is used.
pub record AreUsed (r : JudgingContext) (items others : List Item) (name : List ℕ) (used : Used) : Type 0 where
  pub having : AreRanges (HasListAt r items others name) used.having.items
  pub lacking : IsCutOf (LacksListAt r items others name) used.lacking

-- what is under a position are those of the name of the certificate there
abbrev pub AreUsedKept : JudgingContext → List Item → List Item → BTreeMap ℕ Used → Type 0
AreUsedKept r items others kept = (first : ℕ) (used : Used) → mapped.get nat_cmp kept first ≡ Some used → (name : List ℕ) → HasSubject others name first → AreUsed r items others name used
