pub mod SlotMember
pub mod Legal
