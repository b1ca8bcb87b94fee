pub mod HeaderLaws
pub mod ManyLaws
pub mod Readings
pub mod TakenLaws
pub mod TextLaws
