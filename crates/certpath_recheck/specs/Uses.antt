-- How far each reader of a run that checks evidence was read, and which error comes of it.
use Rattle.std.specs.Prelude.{◌≡◌, ◌⊎◌, ℕ, ◌+◌, List, Option, Result, Ok, Err}
use Rattle.certpath_recheck.specs.Recheck.{HasFirstBadFor, IsForOther}
use Rattle.certpath_inputs.specs.declared.demand.AskedPurpose.{AskedPurpose}
use Rattle.certpath_inputs.specs.Uses.{Use, unread, whole, failed, too_long, stopped, Counts, Used, AreUses}
use Rattle.certpath_inputs.specs.declared.settings.RunError.{RunError}
use Rattle.certpath_inputs.specs.declared.settings.RunError.TheVariants as runs
use Rattle.certpath_recheck.specs.declared.rechecking.RecheckError.{RecheckError}
use Rattle.certpath_recheck.specs.declared.rechecking.RecheckError.TheVariants.{Run, Read, TooLong, BadLine, OtherPurpose}

-- the other three were read to their ends
abbrev pub AreWhole : Use → Use → Use → Type 0
AreWhole b a v = (b ≡ whole) × (a ≡ whole) × (v ≡ whole)

-- how all four were used if an error that isn't of the evidence ended the run: before the evidence
-- was read, or after it
abbrev pub AreUsesAt : {A : Type 0} → Result A RunError → Use → Use → Use → Use → Type 0
AreUsesAt (Ok x) b a v e = AreWhole b a v × (e ≡ whole)
AreUsesAt (Err (runs.Read i)) b a v e = AreUses {A = RunError} (Err (runs.Read i)) b a v × (e ≡ unread)
AreUsesAt (Err (runs.TooLong i)) b a v e = AreUses {A = RunError} (Err (runs.TooLong i)) b a v × (e ≡ unread)
AreUsesAt (Err (runs.BadLine n)) b a v e = AreWhole b a v × (e ≡ unread)
AreUsesAt (Err runs.OutOfMemory) b a v e = (AreUses {A = RunError} (Err runs.OutOfMemory) b a v × (e ≡ unread)) ⊎ (AreWhole b a v × ((e ≡ stopped) ⊎ (e ≡ whole)))
AreUsesAt (Err runs.Write) b a v e = AreWhole b a v × (e ≡ whole)

-- how the readers of bundle, anchors, vouchers and evidence were used, one after the other
abbrev pub AreRecheckUses : {A : Type 0} → Result A RecheckError → Use → Use → Use → Use → Type 0
AreRecheckUses (Ok x) b a v e = AreWhole b a v × (e ≡ whole)
AreRecheckUses (Err (Run error)) b a v e = AreUsesAt {A = RunError} (Err error) b a v e
AreRecheckUses (Err Read) b a v e = AreWhole b a v × (e ≡ failed)
AreRecheckUses (Err TooLong) b a v e = AreWhole b a v × (e ≡ too_long)
AreRecheckUses (Err (BadLine n)) b a v e = AreWhole b a v × (e ≡ whole)
AreRecheckUses (Err OtherPurpose) b a v e = AreWhole b a v × (e ≡ whole)

-- the readers' counts went so
pub record UseRecheckReaders {A : Type 0} (result : Result A RecheckError) (bundle bundle' anchors anchors' vouchers vouchers' evidence evidence' : Counts) : Type 0 where
  pub b : Use
  pub a : Use
  pub v : Use
  pub e : Use
  pub are_uses : AreRecheckUses result b a v e
  pub bundle_used : Used b bundle bundle'
  pub anchors_used : Used a anchors anchors'
  pub vouchers_used : Used v vouchers vouchers'
  pub evidence_used : Used e evidence evidence'

-- how the reader of the evidence was used that gave this
abbrev pub evidence_use_of : {A : Type 0} → Result A RecheckError → Use
evidence_use_of (Ok x) = whole
evidence_use_of (Err Read) = failed
evidence_use_of (Err TooLong) = too_long
evidence_use_of (Err (BadLine n)) = whole
evidence_use_of (Err OtherPurpose) = whole
evidence_use_of (Err (Run error)) = stopped

-- an error of the reading of the evidence
abbrev pub IsOfEvidence : RecheckError → Type 0
IsOfEvidence Read = Unit {0}
IsOfEvidence TooLong = Unit {0}
IsOfEvidence (BadLine n) = ⊥
IsOfEvidence OtherPurpose = ⊥
IsOfEvidence (Run error) = error ≡ runs.OutOfMemory

-- a text of evidence is refused for its purpose, for its first bad line, or for lack of memory
abbrev pub RefusesEvidence : Option AskedPurpose → List ℕ → RecheckError → Type 0
RefusesEvidence purpose text Read = ⊥
RefusesEvidence purpose text TooLong = ⊥
RefusesEvidence purpose text (BadLine n) = HasFirstBadFor purpose text n
RefusesEvidence purpose text OtherPurpose = IsForOther purpose text
RefusesEvidence purpose text (Run error) = error ≡ runs.OutOfMemory

-- how many calls of the writer failed
abbrev pub failed_recheck_writes : {A : Type 0} → Result A RecheckError → ℕ
failed_recheck_writes (Ok x) = 0
failed_recheck_writes (Err Read) = 0
failed_recheck_writes (Err TooLong) = 0
failed_recheck_writes (Err (BadLine n)) = 0
failed_recheck_writes (Err OtherPurpose) = 0
failed_recheck_writes (Err (Run runs.OutOfMemory)) = 0
failed_recheck_writes (Err (Run (runs.Read i))) = 0
failed_recheck_writes (Err (Run (runs.TooLong i))) = 0
failed_recheck_writes (Err (Run (runs.BadLine n))) = 0
failed_recheck_writes (Err (Run runs.Write)) = 1

-- the error of a bad line that follows the line of a purpose
abbrev pub MatchesAfter : ℕ → RecheckError → Type 0
MatchesAfter after Read = ⊥
MatchesAfter after TooLong = ⊥
MatchesAfter after (BadLine n) = n ≡ after + 1
MatchesAfter after OtherPurpose = ⊥
MatchesAfter after (Run error) = error ≡ runs.OutOfMemory
