pub mod Lines
pub mod NoteSentences
pub mod Sentences
