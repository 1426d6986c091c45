pub mod FirstLine
pub mod Programs
