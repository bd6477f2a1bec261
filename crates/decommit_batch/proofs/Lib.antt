mod HandingIn
mod SweepLemmas
mod SweepParts
mod SweptPools
pub mod TellingLemmas
mod TriedNumbers
mod WorkedSweep
