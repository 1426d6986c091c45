pub mod FaultLines
pub mod Flushed
pub mod Whole
