pub mod Parts
pub mod Owners
pub mod Claims
