mod SettledPlaces
mod RootPoint
mod CutsBelow
mod MadeRootCuts
