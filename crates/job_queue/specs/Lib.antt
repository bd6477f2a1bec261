pub mod Accounts
pub mod Balance
pub mod Passes
pub mod Boards
pub mod RunAccounts
pub mod RunBalance
pub mod RunPasses
