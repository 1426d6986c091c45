pub mod Changing
pub mod Turns
pub mod Numbers
