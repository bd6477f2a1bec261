pub mod CallWords
pub mod Instances
pub mod Parts
pub mod Paused
pub mod PausedViews
pub mod PausedInstances
pub mod Resumed
