pub mod Board
pub mod History
