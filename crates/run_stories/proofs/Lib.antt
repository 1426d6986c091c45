pub mod Fills
pub mod Runs
pub mod Steps
