pub mod BusNames
