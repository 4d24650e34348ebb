pub mod Keyed
pub mod Provider
pub mod Operations
pub mod Copying
pub mod MapLaw
