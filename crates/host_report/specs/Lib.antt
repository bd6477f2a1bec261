pub mod Answers
pub mod Made
pub mod NextLine
pub mod Report
