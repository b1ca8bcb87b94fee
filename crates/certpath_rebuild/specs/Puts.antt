-- How many octets there are, and what a writer of octets returns and leaves.
use Rattle.std.specs.Prelude.{◌≡◌, ◌+◌, ◌^◌, ◌≤◌, ℕ, List, length, Option, Some, None, Result, IfOk, IfErr, OnOk, OnErr}
use Rattle.std.specs.Io.KnownBytes.{Appends}
use Rattle.asn1_device.specs.Counts.{AppendsFront, faults_of}
use Rattle.asn1_core.specs.declared.serialize.SerializeError.{SerializeError}
use Rattle.asn1_core.specs.declared.serialize.SerializeError.TheVariants.{InvalidLength, IOError}
use Rattle.asn1_device.specs.declared.fault.DeviceFault.{DeviceFault}

-- their number, or that `usize` can't count them
abbrev pub Sized : List ℕ → Option ℕ → Type 0
Sized octets (Some n) = n ≡ length octets
Sized octets None = 2 ^ 64 ≤ length octets

-- the octets were appended, or a front of them, one call having failed
pub record Puts (old new : Option (List ℕ)) (before after : ℕ) (octets : List ℕ) (r : Result (Unit {0}) DeviceFault) : Type 0 where
  pub ok : OnOk r (Appends old new octets)
  pub err : OnErr r (AppendsFront old new octets)
  pub failures : after ≡ before + faults_of r

-- why octets were not written: they are more than `usize` counts, and nothing was written; or a
-- call of the device failed, after some octets from the front
abbrev pub NotRebuilt : Option (List ℕ) → Option (List ℕ) → ℕ → ℕ → List ℕ → SerializeError → Type 0
NotRebuilt old new before after octets InvalidLength = (2 ^ 64 ≤ length octets) × (new ≡ old) × (after ≡ before)
NotRebuilt old new before after octets IOError = AppendsFront old new octets × (after ≡ before + 1)
NotRebuilt old new before after octets e = ⊥

-- the octets were appended to what the device holds and counted, and no call of it failed; or not
-- all of them were written
pub record Rebuilds (old new : Option (List ℕ)) (before after : ℕ) (octets : List ℕ) (r : Result ℕ SerializeError) : Type 0 where
  pub ok : IfOk r (λ n. Appends old new octets × (n ≡ length octets) × (after ≡ before))
  pub err : IfErr r (NotRebuilt old new before after octets)
