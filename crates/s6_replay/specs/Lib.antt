pub mod Transcript
pub mod Lines
pub mod ReadingStops
pub mod Replay
pub mod Turn
pub mod Checking
pub mod Migration
pub mod FaultNumber
