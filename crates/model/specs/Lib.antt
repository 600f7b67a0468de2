pub mod Meaning
pub mod View
pub mod Layers
