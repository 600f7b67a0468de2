pub mod Sc
pub mod Prepared
pub mod Laws
