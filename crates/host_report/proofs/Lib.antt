pub mod AnswerLemmas
pub mod LineLemmas
mod MadeExamples
pub mod QuietLemmas
pub mod ReportLemmas
