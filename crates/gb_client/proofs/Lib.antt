pub mod NeedLemmas
pub mod SecretLemmas
pub mod RequestLemmas
pub mod ReplyLemmas
