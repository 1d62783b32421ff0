pub mod Growing
pub mod Sums
pub mod RecordLists
pub mod Elements
pub mod Ranges
pub mod Cells
pub mod Links
pub mod Rows
