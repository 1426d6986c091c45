pub mod OnSuccess
pub mod NumberCodes
pub mod ItemCodes
pub mod LetterBack
pub mod ReadBack
pub mod StepBack
pub mod ActBegins
