pub mod ControlLetter
