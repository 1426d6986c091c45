mod Digits
mod Places
pub mod Decimals
