pub mod Crosses
pub mod Searching
pub mod ListedStates
pub mod Walking
