pub mod Line
pub mod Passing
pub mod Growing
pub mod Fitting
