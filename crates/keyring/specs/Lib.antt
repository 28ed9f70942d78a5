pub mod Cookies
pub mod Errors
