pub mod Escaping
pub mod Places
pub mod Commas
