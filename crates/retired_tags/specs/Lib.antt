pub mod Steps
pub mod Views
pub mod Rule
pub mod Outcomes
pub mod Passes
