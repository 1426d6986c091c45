pub mod Number
pub mod SignalName
pub mod ServiceName
pub mod Files
pub mod Config
pub mod FirstFault
