pub mod Left
pub mod Rounds
pub mod Runs
pub mod Worked
