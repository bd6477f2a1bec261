pub mod AccountLemmas
pub mod AccountLists
pub mod BalanceMoves
pub mod NumberLemmas
pub mod Partings
pub mod Puttings
pub mod RunMoves
pub mod RunPartings
