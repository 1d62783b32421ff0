pub mod Sums
pub mod Weighing
pub mod Sets
pub mod Balance
pub mod Levelling
pub mod Growing
pub mod Examples
