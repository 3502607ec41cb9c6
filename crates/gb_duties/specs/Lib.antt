pub mod Duties
pub mod Agreement
pub mod Delivery
pub mod Examples
