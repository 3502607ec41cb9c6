pub mod Recorded
pub mod Gathered
pub mod Handed
