-- How a run over items alone uses its readers and its writer.
use Rattle.std.specs.Prelude.{◌≡◌, ◌⊎◌, ℕ, Result, Ok, Err}
use Rattle.certpath_run.specs.declared.items.ItemInput.{ItemInput}
use Rattle.certpath_run.specs.declared.items.ItemsError.{ItemsError}
use Rattle.certpath_run.specs.declared.items.ItemsError.TheVariants.{Read, TooLong, OutOfMemory, Write}
use Rattle.certpath_inputs.specs.Uses.{Use, Counts, Used, whole, failed, too_long, stopped}

-- an error of the reading of this input
abbrev pub IsOfItems : ItemInput → ItemsError → Type 0
IsOfItems input (Read i) = i ≡ input
IsOfItems input (TooLong i) = i ≡ input
IsOfItems input OutOfMemory = Unit {0}
IsOfItems input Write = ⊥

-- how a single reader was used that gave this
abbrev pub item_use_of : {A : Type 0} → Result A ItemsError → Use
item_use_of (Ok x) = whole
item_use_of (Err (Read i)) = failed
item_use_of (Err (TooLong i)) = too_long
item_use_of (Err OutOfMemory) = stopped
item_use_of (Err Write) = whole

-- how the one reader of a run was used that gave this; memory is refused before its end or after it
abbrev pub IsItemUse : {A : Type 0} → Result A ItemsError → Use → Type 0
IsItemUse (Ok x) u = u ≡ whole
IsItemUse (Err (Read i)) u = u ≡ failed
IsItemUse (Err (TooLong i)) u = u ≡ too_long
IsItemUse (Err OutOfMemory) u = (u ≡ stopped) ⊎ (u ≡ whole)
IsItemUse (Err Write) u = u ≡ whole

-- the reader's counts went so
pub record UsesItemReader {A : Type 0} (result : Result A ItemsError) (before after : Counts) : Type 0 where
  pub u : Use
  pub is_use : IsItemUse result u
  pub used : Used u before after

-- how many calls of the writer failed
abbrev pub failed_item_writes : {A : Type 0} → Result A ItemsError → ℕ
failed_item_writes (Ok x) = 0
failed_item_writes (Err (Read i)) = 0
failed_item_writes (Err (TooLong i)) = 0
failed_item_writes (Err OutOfMemory) = 0
failed_item_writes (Err Write) = 1
