pub mod Asking
pub mod Handing
pub mod Noting
pub mod Shorter
