pub mod RecordText
pub mod Records
pub mod Fits
pub mod Laws
