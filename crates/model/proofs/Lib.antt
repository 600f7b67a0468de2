pub mod Blank
pub mod Rivalry
pub mod Lists
