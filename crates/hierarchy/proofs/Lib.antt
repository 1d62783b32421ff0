pub mod Cells
pub mod Facts
pub mod Joining
pub mod Listing
pub mod Asking
pub mod Alike
