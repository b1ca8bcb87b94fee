pub mod DerElements
pub mod BerElements
pub mod Reading
pub mod Views
pub mod Cutting
pub mod CutViews
