mod Running
mod Kept
mod Openings
mod LawfulRuns
