pub mod Address
pub mod AddressParts
pub mod Escapes
pub mod Transports
