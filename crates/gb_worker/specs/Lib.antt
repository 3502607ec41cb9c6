pub mod Answered
pub mod Ended
pub mod Gained
pub mod Ticks
pub mod Turns
pub mod Carried
pub mod Asked
