pub mod ByName
pub mod Constants
pub mod EmptyRuns
pub mod FloatCode
pub mod FunctionNeeds
pub mod Parts
