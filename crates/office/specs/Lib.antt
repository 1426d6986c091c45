pub mod NewOffice
pub mod Names
pub mod Opening
pub mod Changed
pub mod Told
