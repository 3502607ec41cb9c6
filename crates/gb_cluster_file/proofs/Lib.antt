mod PlaceLemmas
mod ViewLemmas
mod FaultLemmas
