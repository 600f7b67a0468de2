pub mod Building
pub mod Judging
pub mod Settling
pub mod Standing
