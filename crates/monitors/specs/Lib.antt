pub mod Watching
pub mod Sending
pub mod Wanting
pub mod Showing
