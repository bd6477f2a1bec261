pub mod Check
pub mod Subject
pub mod Position
pub mod Steps
pub mod Walk
pub mod Runs
