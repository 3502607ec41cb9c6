pub mod Project
pub mod Isolation
pub mod Decides
pub mod RunLaws
