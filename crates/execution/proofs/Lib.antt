pub mod Counting
pub mod Edging
pub mod Tying
pub mod Joining
