pub mod Writing
pub mod Adding
pub mod Parts
pub mod Taking
pub mod Return
