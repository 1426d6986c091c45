pub mod Endings
pub mod Line
pub mod Outbox
pub mod MakingWay
