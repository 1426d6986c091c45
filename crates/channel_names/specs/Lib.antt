pub mod RingName
pub mod Unnamed
