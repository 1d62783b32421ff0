pub mod Keys
pub mod Rims
