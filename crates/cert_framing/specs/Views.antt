-- How the fields of a bundle and of its items are read.
use Rattle.std.specs.Prelude.{◌≤◌, Bool, true, false, length, drop}
use Rattle.cert_framing.specs.declared.bundle.Bundle.TheInside.{Inside}
use Rattle.cert_framing.specs.declared.bundle.State.{State}
use Rattle.cert_framing.specs.declared.bundle.State.TheVariants.{Reading, Faulted, Failed}
use Rattle.cert_framing.specs.Held.{Held}
use Rattle.cert_framing.specs.Pieces.{pieces, RunsTo}

abbrev pub has_fault_in : State → Bool
has_fault_in Reading = false
has_fault_in Faulted = true
has_fault_in Failed = false

abbrev pub has_failed_in : State → Bool
has_failed_in Reading = false
has_failed_in Faulted = false
has_failed_in Failed = true

abbrev pub held_of : Inside → Held
held_of b =
    record {
      limit = b.limit;
      items = pieces 0 b.ends.items b.octets.items;
      kept = drop b.at b.octets.items;
      has_fault = has_fault_in b.state;
      has_failed = has_failed_in b.state;
    }

-- the ends ascend to `at`, which lies within the octets
pub record IsSound (b : Inside) : Type 0 where
  pub within : b.at ≤ length b.octets.items
  pub runs : RunsTo 0 b.ends.items b.at
