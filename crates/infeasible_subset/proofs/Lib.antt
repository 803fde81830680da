mod Building
mod Lists
mod Subsets
mod There
mod Accepted
mod OneByOne
mod Treated
mod EachMet
