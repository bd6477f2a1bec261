pub mod ResultLemmas
mod Causing
mod Filling
mod LastClaiming
mod Preferring
pub mod ToldLemmas
mod WonRows
mod UnheldRows
