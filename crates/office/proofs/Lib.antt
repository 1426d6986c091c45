pub mod Changed
pub mod Named
pub mod Filled
pub mod Numbered
pub mod Readers
pub mod Crosses
pub mod Runs
