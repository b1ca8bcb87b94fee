pub mod EachPurpose
