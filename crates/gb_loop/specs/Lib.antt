pub mod Buckets
pub mod Rates
pub mod Timers
pub mod Candidates
pub mod Turns
pub mod Openings
