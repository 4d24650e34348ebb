pub mod Fills
pub mod KeyedLists
pub mod Listings
mod CopySteps
mod Gets
