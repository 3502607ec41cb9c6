pub mod Ack
pub mod SendWindow
pub mod Spaced
pub mod Received
pub mod Words
pub mod Link
pub mod Progress
pub mod Common
