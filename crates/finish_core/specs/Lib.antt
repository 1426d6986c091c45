pub mod FinishArguments
pub mod ExitVerdict
pub mod Restart
