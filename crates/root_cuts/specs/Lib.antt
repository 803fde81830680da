pub mod RootBasis
pub mod RootCuts
