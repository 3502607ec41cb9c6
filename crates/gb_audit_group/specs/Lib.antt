pub mod Compared
pub mod GroupText
