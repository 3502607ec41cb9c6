pub mod Turns
pub mod Resumed
pub mod Read
