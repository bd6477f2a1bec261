pub mod StateWords
pub mod PoolCore
pub mod EventEffects
pub mod RefusalRules
pub mod Lawful
pub mod Runs
pub mod Changes
pub mod Laws
