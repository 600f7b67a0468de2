pub mod Agreeing
pub mod Basing
