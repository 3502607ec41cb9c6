pub mod Story
pub mod Marks
