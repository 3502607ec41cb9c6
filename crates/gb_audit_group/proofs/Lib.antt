pub mod PlacedLemmas
pub mod RerunLemmas
