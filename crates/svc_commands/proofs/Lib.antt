pub mod Words
pub mod Parses
pub mod NameWords
pub mod Cuts
pub mod Items
pub mod LetterLaw
