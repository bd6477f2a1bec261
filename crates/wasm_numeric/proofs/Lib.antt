pub mod Digits
pub mod Division
pub mod Shifts
pub mod Extensions
pub mod Signed
pub mod Quotients
pub mod StdOperators
