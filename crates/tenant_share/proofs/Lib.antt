pub mod CallerLemmas
mod Examples
pub mod OpeningLemmas
pub mod PlaceLemmas
pub mod RetiringLemmas
pub mod ShareLemmas
