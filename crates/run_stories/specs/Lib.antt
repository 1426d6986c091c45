pub mod Moments
pub mod Words
pub mod Requests
pub mod ActWords
pub mod Stories
pub mod Scripts
pub mod Lanes
pub mod Intervals
