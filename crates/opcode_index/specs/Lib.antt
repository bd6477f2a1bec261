pub mod OpcodeIndex
