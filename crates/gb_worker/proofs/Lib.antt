pub mod GainLemmas
pub mod TickLemmas
pub mod TurnLemmas
pub mod CarryLemmas
pub mod AskLemmas
pub mod CallLemmas
