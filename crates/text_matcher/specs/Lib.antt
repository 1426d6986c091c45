pub mod Expression
pub mod Matching
pub mod BuildFault
pub mod StateLists
pub mod Walks
pub mod MatcherFields
