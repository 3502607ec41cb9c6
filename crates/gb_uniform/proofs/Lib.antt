pub mod ModuleLemmas
