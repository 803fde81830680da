mod CutsLeft
mod RootCutsShown
