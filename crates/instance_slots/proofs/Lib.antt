pub mod TypedLemmas
