pub mod Backend
pub mod Report
pub mod LaneOrders
pub mod Lane
pub mod Desk
pub mod Probe
pub mod Opening
