pub mod Openings
pub mod Listed
pub mod Verdicts
pub mod Trials
