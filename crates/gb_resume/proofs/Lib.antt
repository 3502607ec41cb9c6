pub mod TurnLemmas
pub mod ReadLemmas
pub mod KeptLemmas
pub mod PartLemmas
