pub mod Steps
pub mod Kinds
pub mod Fitting
pub mod Ways
pub mod KindLaws
