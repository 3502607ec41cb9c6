pub mod GatherLemmas
pub mod WriteLemmas
