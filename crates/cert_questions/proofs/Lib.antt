pub mod FirstHolders
pub mod Agreeing
pub mod FirstPlaces
pub mod ByName
pub mod Places
pub mod Asked
pub mod Worked
