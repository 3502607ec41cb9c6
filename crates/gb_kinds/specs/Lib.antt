pub mod Kinds
pub mod LogLaws
