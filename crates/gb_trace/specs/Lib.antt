pub mod Trace
pub mod NodeSteps
pub mod Counts
pub mod Observed
pub mod Run
pub mod Refused
pub mod Kept
