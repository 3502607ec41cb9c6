pub mod StartLemmas
pub mod StartedLemmas
pub mod StandsLemmas
