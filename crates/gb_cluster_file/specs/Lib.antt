pub mod Fields
pub mod Places
pub mod Cluster
pub mod Faults
