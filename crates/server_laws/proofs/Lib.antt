pub mod Away
pub mod Following
pub mod InOrder
pub mod Left
pub mod Silence
pub mod Ending
pub mod Telling
