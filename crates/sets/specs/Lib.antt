pub mod Sets
pub mod Level
pub mod Examples
