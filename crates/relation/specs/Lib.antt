pub mod Algebra
pub mod Bits
pub mod Meaning
pub mod Reading
