pub mod Alone
pub mod Laws
pub mod MemberLists
pub mod Observation
pub mod Common
