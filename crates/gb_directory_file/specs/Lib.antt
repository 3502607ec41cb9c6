pub mod Directory
pub mod Faults
