mod LevelExamples
mod Chains
mod ReadBack
