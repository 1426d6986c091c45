pub mod Crosses
pub mod Kept
pub mod Marks
pub mod Names
