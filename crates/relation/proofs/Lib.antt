pub mod Digits
pub mod Below
pub mod Sets
pub mod Relations
pub mod Laws
pub mod Plus
pub mod Readings
