pub mod Marks
pub mod Unique
pub mod Steps
pub mod Surveys
