pub mod AddressLemmas
pub mod LengthLemmas
pub mod LetFallLemmas
pub mod SayLemmas
pub mod MentionLemmas
pub mod KnownLemmas
pub mod LogLemmas
pub mod PutLemmas
