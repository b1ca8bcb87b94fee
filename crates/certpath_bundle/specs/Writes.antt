-- How many writes fail.
use Rattle.std.specs.Prelude.{ℕ, Result, Ok, Err}
use Rattle.certpath_bundle.specs.declared.bundling.BundleError.{BundleError}
use Rattle.certpath_bundle.specs.declared.bundling.BundleError.TheVariants.{OutOfMemory, Write}

-- how many calls of the writer failed
abbrev pub failed_writes : {A : Type 0} → Result A BundleError → ℕ
failed_writes (Ok x) = 0
failed_writes (Err OutOfMemory) = 0
failed_writes (Err Write) = 1
