pub mod Tokens
pub mod Counts
pub mod Outcomes
