pub mod Sets
pub mod Reading
pub mod Fits
pub mod Laws
pub mod Between
pub mod OneEdge
pub mod Kept
pub mod Trials
