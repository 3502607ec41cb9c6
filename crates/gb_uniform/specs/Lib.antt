pub mod Rules
pub mod AllAckLemmas
pub mod MajorityAckLemmas
