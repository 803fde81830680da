pub mod Results
mod OpenedAgain
mod WithoutBest
mod ShownParts
