pub mod LineLemmas
pub mod LineSplitLemmas
pub mod LeftLemmas
pub mod CutLemmas
