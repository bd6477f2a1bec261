pub mod AnswerLemmas
pub mod ClosingLemmas
pub mod CountingLemmas
mod Examples
pub mod IdleLemmas
pub mod OutLemmas
pub mod PausedLemmas
pub mod PreferringLemmas
pub mod RetirementLemmas
pub mod SlotLemmas
pub mod StartLemmas
pub mod VisitLemmas
