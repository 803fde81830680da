mod Keys
mod Passes
