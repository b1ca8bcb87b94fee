pub mod Vouching
