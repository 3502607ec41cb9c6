pub mod ScheduleText
pub mod Replay
pub mod Entries
pub mod Complaint
