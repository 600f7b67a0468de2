pub mod Questions
pub mod Format
pub mod Numbers
pub mod Grammar
pub mod Readers
pub mod Counts
