pub mod Kept
pub mod Left
pub mod Lent
pub mod Written
