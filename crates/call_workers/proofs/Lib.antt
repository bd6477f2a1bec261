pub mod ChangeLemmas
pub mod CrewLemmas
pub mod KnowLemmas
pub mod PassLemmas
pub mod TakenLemmas
pub mod ZipLemmas
