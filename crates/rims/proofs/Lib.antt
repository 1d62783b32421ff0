pub mod Sorting
pub mod Tallying
pub mod Noting
pub mod Cells
