pub mod Adding
pub mod Choosing
pub mod Rows
pub mod Splitting
pub mod Taking
