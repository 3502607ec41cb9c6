pub mod Lines
pub mod LineLaws
pub mod Buffered
pub mod LineBuffer
