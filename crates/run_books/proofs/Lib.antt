pub mod BoardLemmas
pub mod CallLemmas
pub mod DueLemmas
pub mod EntryLemmas
pub mod PlaceLemmas
pub mod PutLemmas
pub mod QuietLemmas
