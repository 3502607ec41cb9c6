pub mod Complaint
pub mod Marks
pub mod Peers
pub mod Refused
pub mod Told
