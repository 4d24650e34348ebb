pub mod Room
pub mod Sheets
pub mod Checks
pub mod Effects
pub mod RelayState
pub mod BankSteps
pub mod Opening
