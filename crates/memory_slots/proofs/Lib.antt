pub mod ImageLemmas
pub mod KeptLemmas
pub mod LentLemmas
