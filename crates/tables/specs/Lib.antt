pub mod Judging
pub mod Kind
pub mod Tables
pub mod Contents
