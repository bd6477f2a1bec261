pub mod Queued
pub mod Slices
