-- How far each reader was read, and which refusal comes of it.
use Rattle.std.specs.Prelude.{◌≡◌, ◌⊎◌, ℕ, ◌+◌, ◌≤◌, max, Result, Ok, Err}
use Rattle.asn1_device.specs.declared.source.Source.{Ghosts}
use Rattle.certpath_inputs.specs.declared.reading.InputError.{InputError}
use Rattle.certpath_inputs.specs.declared.reading.InputError.TheVariants as inputs
use Rattle.certpath_inputs.specs.declared.settings.Input.{Input}
use Rattle.certpath_inputs.specs.declared.settings.Input.TheVariants.{Bundle, Anchors, Vouchers}
use Rattle.certpath_inputs.specs.declared.settings.RunError.{RunError}
use Rattle.certpath_inputs.specs.declared.settings.RunError.TheVariants.{Read, TooLong, BadLine, OutOfMemory, Write}

-- not at all; to its end; up to a read that failed; as many reads as are asked for at most, none at the end; up to a refusal of memory
pub data Use : Type 0 where
  unread : Use
  whole : Use
  failed : Use
  too_long : Use
  stopped : Use

abbrev pub failures_of : Use → ℕ
failures_of unread = 0
failures_of whole = 0
failures_of failed = 1
failures_of too_long = 0
failures_of stopped = 0

abbrev pub ends_of : Use → ℕ
ends_of unread = 0
ends_of whole = 1
ends_of failed = 0
ends_of too_long = 0
ends_of stopped = 0

-- a reader is read so often at most, and each time for so many octets
abbrev pub most_reads : ℕ
most_reads = 16777216

abbrev pub most_octets : ℕ
most_octets = 65536

-- how many reads there were
abbrev pub AreReads : Use → ℕ → ℕ → Type 0
AreReads unread before after = after ≡ before
AreReads whole before after = after ≤ before + most_reads
AreReads failed before after = after ≤ before + most_reads
AreReads too_long before after = after ≡ before + most_reads
AreReads stopped before after = after ≤ before + most_reads

-- what a reader's device counts
pub record Counts : Type 0 where
  pub reads : ℕ
  pub failures : ℕ
  pub ends : ℕ
  pub widest : ℕ

abbrev pub counts : {R : Type 0} → Ghosts R → R → Counts
counts source reader = record { reads = source.reads reader; failures = source.failures reader; ends = source.ends reader; widest = source.widest reader }

-- what such a use adds to a reader's counts
pub record Used (u : Use) (before after : Counts) : Type 0 where
  pub reads : AreReads u before.reads after.reads
  pub failures : after.failures ≡ before.failures + failures_of u
  pub ends : after.ends ≡ before.ends + ends_of u
  pub widest : after.widest ≤ max before.widest most_octets

-- how the readers of bundle, anchors and vouchers were used, one after the other
abbrev pub AreUses : {A : Type 0} → Result A RunError → Use → Use → Use → Type 0
AreUses (Ok x) b a v = (b ≡ whole) × (a ≡ whole) × (v ≡ whole)
AreUses (Err (Read Bundle)) b a v = (b ≡ failed) × (a ≡ unread) × (v ≡ unread)
AreUses (Err (Read Anchors)) b a v = (b ≡ whole) × (a ≡ failed) × (v ≡ unread)
AreUses (Err (Read Vouchers)) b a v = (b ≡ whole) × (a ≡ whole) × (v ≡ failed)
AreUses (Err (TooLong Bundle)) b a v = (b ≡ too_long) × (a ≡ unread) × (v ≡ unread)
AreUses (Err (TooLong Anchors)) b a v = (b ≡ whole) × (a ≡ too_long) × (v ≡ unread)
AreUses (Err (TooLong Vouchers)) b a v = (b ≡ whole) × (a ≡ whole) × (v ≡ too_long)
AreUses (Err (BadLine n)) b a v = (b ≡ whole) × (a ≡ whole) × (v ≡ whole)
AreUses (Err Write) b a v = (b ≡ whole) × (a ≡ whole) × (v ≡ whole)
AreUses (Err OutOfMemory) b a v = ((b ≡ stopped) × (a ≡ unread) × (v ≡ unread)) ⊎ (((b ≡ whole) × (a ≡ stopped) × (v ≡ unread)) ⊎ ((b ≡ whole) × (a ≡ whole) × ((v ≡ stopped) ⊎ (v ≡ whole))))

-- the readers' counts went so
pub record UseReaders {A : Type 0} (result : Result A RunError) (bundle bundle' anchors anchors' vouchers vouchers' : Counts) : Type 0 where
  pub b : Use
  pub a : Use
  pub v : Use
  pub are_uses : AreUses result b a v
  pub bundle_used : Used b bundle bundle'
  pub anchors_used : Used a anchors anchors'
  pub vouchers_used : Used v vouchers vouchers'

-- how a single reader was used that gave this
abbrev pub use_of : {A : Type 0} → Result A RunError → Use
use_of (Ok x) = whole
use_of (Err (Read i)) = failed
use_of (Err (TooLong i)) = too_long
use_of (Err (BadLine n)) = whole
use_of (Err OutOfMemory) = stopped
use_of (Err Write) = whole

-- a refusal of the reading of this input
abbrev pub IsOfInput : Input → RunError → Type 0
IsOfInput input (Read i) = i ≡ input
IsOfInput input (TooLong i) = i ≡ input
IsOfInput input (BadLine n) = ⊥
IsOfInput input OutOfMemory = Unit {0}
IsOfInput input Write = ⊥

-- how many calls of the writer failed
abbrev pub failed_writes : {A : Type 0} → Result A RunError → ℕ
failed_writes (Ok x) = 0
failed_writes (Err (Read i)) = 0
failed_writes (Err (TooLong i)) = 0
failed_writes (Err (BadLine n)) = 0
failed_writes (Err OutOfMemory) = 0
failed_writes (Err Write) = 1

-- why a run ends that could not read an input
abbrev pub error_of : InputError → Input → RunError
error_of inputs.Read input = Read input
error_of inputs.TooLong input = TooLong input
error_of inputs.OutOfMemory input = OutOfMemory
