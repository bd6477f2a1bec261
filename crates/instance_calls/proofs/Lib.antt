pub mod ArgumentLemmas
pub mod CallLemmas
pub mod InstanceLemmas
pub mod PausedLemmas
