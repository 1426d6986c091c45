pub mod Files
pub mod Found
pub mod Names
pub mod Notes
pub mod Scanning
pub mod TextNotes
