mod AccountSteps
mod Allowed
mod Closings
mod CoreLaws
mod CountEvents
mod HeldShares
mod HistoryAccounts
mod HistorySteps
mod Holdings
mod KindSums
mod LookSums
pub mod Lookups
mod NewPasses
pub mod NotedBySeats
mod NotedSums
mod OneCount
mod Openings
pub mod Parts
mod PassEvents
mod RuleLaws
mod ScanTrails
pub mod SharedPasses
mod ShownChanges
mod SlotEvents
