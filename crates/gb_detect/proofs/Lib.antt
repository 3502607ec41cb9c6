pub mod SetLemmas
pub mod TickLemmas
pub mod ReplayLemmas
pub mod StretchLemmas
