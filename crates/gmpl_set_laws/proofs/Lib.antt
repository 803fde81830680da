mod PlainCross
mod PlainLists
mod PlainRanges
mod SameTuples
