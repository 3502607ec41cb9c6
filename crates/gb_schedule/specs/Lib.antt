pub mod Head
pub mod Keys
pub mod Versions
pub mod Grammar
pub mod Numbers
