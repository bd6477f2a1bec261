pub mod Exact
pub mod Needs
pub mod Stacks
pub mod Steps
pub mod Advances
pub mod Functions
pub mod Runs
