pub mod LoadLemmas
pub mod LoadExamples
