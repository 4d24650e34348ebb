mod Writes
mod Searches
mod Shifts
mod Layouts
mod Providers
mod Changes
