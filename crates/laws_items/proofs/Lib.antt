pub mod OfClasses
pub mod OfFaults
pub mod OfFields
pub mod OfVoucherFiles
pub mod OneBroken
pub mod FrontParts
pub mod OneFault
