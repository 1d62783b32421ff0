pub mod Number
pub mod Form
pub mod Array
pub mod Range
pub mod Line
pub mod Progress
