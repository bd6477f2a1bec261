pub mod Decoding
pub mod Tokens
pub mod Contexts
pub mod Opcodes
pub mod Wants
