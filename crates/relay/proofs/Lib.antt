mod Exits
mod Own
mod Among
mod Placing
mod Stepping
mod Locating
mod RelaySteps
mod Asking
mod Landings
mod Rooms
mod BankSteps
pub mod Openings
