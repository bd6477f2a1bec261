pub mod Decoding
pub mod Contexts
pub mod Tokens
pub mod Completions
pub mod Opcodes
pub mod Wants
pub mod WantsExamples
pub mod AddedOpcodes
