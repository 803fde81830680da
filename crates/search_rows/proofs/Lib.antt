mod Points
mod Standing
