pub mod KeptLemmas
pub mod DifferenceLemmas
pub mod TextLemmas
pub mod CollisionLemmas
