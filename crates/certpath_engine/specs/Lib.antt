pub mod Refusals
pub mod Exits
pub mod BundleExits
pub mod PathExits
pub mod ItemsExits
pub mod RecheckExits
pub mod Numbers
pub mod Words
pub mod Asking
pub mod Moments
pub mod MomentReading
pub use Rattle.certpath_inputs.specs.declared.settings.Input.TheVariants as Inputs
pub use Rattle.certpath_inputs.specs.declared.settings.RunError.TheVariants as RunErrors
pub use Rattle.certpath_run.specs.declared.items.ItemInput.TheVariants as ItemInputs
pub use Rattle.certpath_run.specs.declared.items.ItemsError.TheVariants as ItemsErrors
