pub mod Kept
pub mod Ptx
pub mod Axioms
pub mod Prepared
pub mod Generic
pub mod Laws
