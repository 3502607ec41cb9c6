pub mod AuditLemmas
pub mod CountLemmas
pub mod ReplayLemmas
