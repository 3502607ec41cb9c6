pub mod Mailed
pub mod Turned
pub mod Operated
pub mod Replied
pub mod Admissions
pub mod Misfits
