pub mod Cancelling
pub mod EndLemmas
