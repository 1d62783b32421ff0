pub mod Steps
pub mod Onto
pub mod Numbers
pub mod Printing
pub mod Range
pub mod Lines
pub mod Places
