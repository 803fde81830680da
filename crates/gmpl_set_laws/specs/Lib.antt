pub mod PlainSets
