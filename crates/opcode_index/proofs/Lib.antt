pub mod OpcodeExamples
