mod PartialTaken
mod PartialFound
mod PartialAgain
mod ThirdLines
