pub mod Joins
pub mod Classes
pub mod Ties
pub mod Facts
pub mod Words
pub mod Readings
