pub mod Timers
pub mod Queue
pub mod Deadlines
pub mod DeadlinesFields
