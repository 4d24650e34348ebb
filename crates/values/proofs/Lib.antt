pub mod Ranks
pub mod HoldBytes
pub mod SecretSheets
