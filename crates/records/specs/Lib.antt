pub mod Blanks
pub mod Means
