pub mod RunTextLemmas
pub mod ProgressLemmas
pub mod AnswerLemmas
pub mod OfClusterLemmas
pub mod WritingLemmas
