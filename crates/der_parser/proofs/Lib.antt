pub mod Elements
pub mod Trees
pub mod Numbers
pub mod Handing
pub mod Contents
pub mod Sequences
pub mod Strict
