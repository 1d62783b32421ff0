pub mod Derived
pub mod Accepted
pub mod Asked
