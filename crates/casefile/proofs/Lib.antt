pub mod Taking
pub mod Unique
pub mod Reading
