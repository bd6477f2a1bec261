pub mod DigitLemmas
pub mod SummaryLemmas
pub mod LineExamples
