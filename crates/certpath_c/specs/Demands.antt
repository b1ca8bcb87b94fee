-- What reports are asked for beside paths' being valid, and how they name it. This page is to be believed.
use Rattle.std.specs.Prelude.{◌≡◌, ◌≢◌, ℕ, List, [], Option, Some, None}
use Rattle.host_names.specs.Asked.{AsksFor}
use Rattle.purpose_names.specs.Showing.{IsShown}
use Rattle.certpath_inputs.specs.declared.demand.AskedPurpose.{AskedPurpose}
use Rattle.certpath_inputs.specs.declared.demand.AskedHost.{AskedHost}
use Rattle.certpath_inputs.specs.declared.demand.Demand.{Demand}
use Rattle.certpath_c.specs.declared.asked.Settings.{Settings}

-- the purpose of an identifier, by its name or its numbers; none of no octets
abbrev pub IsAskedPurpose : List ℕ → Option AskedPurpose → Type 0
IsAskedPurpose identifier None = identifier ≡ []
IsAskedPurpose identifier (Some asked) = (identifier ≢ []) × (asked.identifier.now ≡ identifier) × IsShown identifier asked.shown.now

-- the host that a text asks for, as the text has it; none of an empty text
abbrev pub IsAskedHost : List ℕ → Option AskedHost → Type 0
IsAskedHost text None = text ≡ []
IsAskedHost text (Some asked) = (text ≢ []) × AsksFor text asked.host × (asked.shown.now ≡ text)

-- of the path from a target: the purpose and the host of the settings
pub record IsDemandOf (settings : Settings) (demand : Demand) : Type 0 where
  pub purpose : IsAskedPurpose settings.purpose.now demand.purpose
  pub host : IsAskedHost settings.host.now demand.host

-- of the paths of all items: the purpose alone
pub record IsDemandOfAll (settings : Settings) (demand : Demand) : Type 0 where
  pub purpose : IsAskedPurpose settings.purpose.now demand.purpose
  pub host : demand.host ≡ None
