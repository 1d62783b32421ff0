pub mod Sink
pub mod Listing
