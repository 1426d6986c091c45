pub mod Roll
pub mod CommandLine
pub mod Trials
pub mod EndMark
pub mod Ending
