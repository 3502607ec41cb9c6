pub mod NodesLemmas
pub mod HonestLemmas
pub mod LinkLemmas
pub mod OutsideLemmas
pub mod CodeLemmas
pub mod ReadLemmas
pub mod EndLemmas
