pub mod CplexLpExamples
mod Ahead
