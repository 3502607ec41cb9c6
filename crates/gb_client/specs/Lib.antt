pub mod Requests
pub mod Answers
pub mod Secrets
pub mod Asking
pub mod Errands
