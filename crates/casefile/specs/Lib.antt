pub mod Calls
pub mod Files
pub mod Steps
pub mod Numbers
pub mod Ready
pub mod Cases
