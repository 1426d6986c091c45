pub mod NoMemory
pub mod SocketTrouble
pub mod Usage
pub mod IgnoredSignals
