pub mod Silence
pub mod Watch
pub mod Laws
