pub mod Runs
pub mod WholeSteps
pub mod WholeFields
pub mod Log
pub mod Stored
pub mod LogFields
pub mod RunFields
pub mod RunText
