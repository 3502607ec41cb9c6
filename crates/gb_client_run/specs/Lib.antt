pub mod Asked
pub mod ExportText
pub mod Exporting
pub mod Following
pub mod Groups
pub mod Importing
pub mod Listing
pub mod Running
