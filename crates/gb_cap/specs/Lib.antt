pub mod Compare
pub mod Hmac
pub mod Token
