mod CutRows
mod CutParts
mod CutPoints
mod ShownCuts
mod RestoredLeaves
mod RestoredCertificates
mod RestoredPartials
