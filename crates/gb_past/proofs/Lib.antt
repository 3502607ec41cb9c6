pub mod Lists
pub mod Walks
pub mod Steps
