pub mod Snoc
pub mod Growing
pub mod LogReading
pub mod Placing
pub mod RunText
pub mod Crosses
