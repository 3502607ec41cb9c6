pub mod StackState
pub mod Stands
pub mod Layers
pub mod Nothing
pub mod StackLemmas
pub mod UnorderedLemmas
pub mod InsideLemmas
