pub mod AnswerLemmas
pub mod DeliveryLemmas
pub mod DueLemmas
pub mod OwedLemmas
pub mod StreamLemmas
pub mod TenantLemmas
