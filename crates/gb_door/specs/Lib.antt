pub mod Answer
pub mod Asked
pub mod Talk
pub mod Words
