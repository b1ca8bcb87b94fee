-- What is demanded of paths, beside their being valid, and by which relation they are judged then. This page is to be believed.
use Rattle.std.specs.Prelude.{ℕ, Bool, true, false, List, [], ◌∷◌, ◌++◌, codes, Option, Some, None, option_map, get_or}
use Rattle.host_names.specs.Asked.{host_view}
use Rattle.cert_serving.specs.cert_judge.specs.Vouching.{Vouching}
use Rattle.cert_serving.specs.cert_purpose.specs.Restricting.{restricted_by}
use Rattle.cert_serving.specs.Demanding.{Demanded, PermitsOf, ProcessesFor}
use Rattle.cert_serving.specs.Refusing.{are_permitted, are_processed}
use Rattle.cert_serving.specs.declared.permits.Permits.{Permits}
use Rattle.cert_vouchers.specs.declared.vouchers.Vouchers.{Vouchers}
use Rattle.certpath_inputs.specs.Inputs.{VouchesBy}
use Rattle.certpath_inputs.specs.declared.demand.AskedPurpose.{AskedPurpose}
use Rattle.certpath_inputs.specs.declared.demand.AskedHost.{AskedHost}
use Rattle.certpath_inputs.specs.declared.demand.Demand.{Demand}

-- the lines of a report that name what is demanded
abbrev pub purpose_line : Option AskedPurpose → List ℕ
purpose_line None = []
purpose_line (Some purpose) = codes "purpose " ++ (purpose.shown.now ++ 10 ∷ [])

abbrev pub host_line : Option AskedHost → List ℕ
host_line None = []
host_line (Some host) = codes "host " ++ (host.shown.now ++ 10 ∷ [])

abbrev pub demand_lines : Demand → List ℕ
demand_lines demand = purpose_line demand.purpose ++ host_line demand.host

-- a purpose alone
abbrev pub of_purpose : Option AskedPurpose → Demand
of_purpose purpose = record { purpose = purpose; host = None }

-- the octets of the item at a place
abbrev pub target_octets : List (List ℕ) → ℕ → List ℕ
target_octets items place = get_or items place []

-- a purpose of each certificate, and a host of the target
abbrev pub demanded : Demand → List ℕ → Demanded
demanded demand target = record { purpose = option_map (λ p. p.identifier.now) demand.purpose; host = option_map (λ h. host_view h.host) demand.host; target = target }

-- the pairs vouch for a key and an item, the item is permitted, and what the permit looks at may be critical
abbrev pub VouchesWhere : Permits → Vouchers → Vouching
VouchesWhere permits pairs = restricted_by (are_permitted permits) (are_processed permits) (VouchesBy pairs)

-- exactly the items that meet the demands are permitted, and exactly what is demanded is processed
abbrev pub ArePermitsOf : Demanded → List (List ℕ) → Permits → Type 0
ArePermitsOf d items permits = PermitsOf d items (are_permitted permits) × ProcessesFor d (are_processed permits)

-- one holds if neither is given, and the other if one of them is
abbrev pub IfNeither : {A B : Type 0} → Option A → Option B → Type 0 → Type 0 → Type 0
IfNeither None None P Q = P
IfNeither None (Some b) P Q = Q
IfNeither (Some a) b P Q = Q

-- What holds by the relation that is demanded, in a search from the item at a place: without a demand the pairs vouch as they are; else for the items that meet it.
abbrev pub HoldsFor : Demand → List (List ℕ) → ℕ → Vouchers → (Vouching → Type 0) → Type 0
HoldsFor demand items target pairs Right =
    IfNeither demand.purpose demand.host (Right (VouchesBy pairs))
    ((permits : Permits) × ArePermitsOf (demanded demand (target_octets items target)) items permits × Right (VouchesWhere permits pairs))

abbrev pub is_neither : {A B : Type 0} → Option A → Option B → Bool
is_neither None None = true
is_neither None (Some b) = false
is_neither (Some a) b = false

abbrev pub is_none : Demand → Bool
is_none demand = is_neither demand.purpose demand.host
