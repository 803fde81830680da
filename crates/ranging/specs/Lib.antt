pub mod CostRanges
pub mod TightBounds
pub mod PlaceNames
pub mod CostAuxiliary
pub mod LeafDirections
pub mod BoundRanges
pub mod BoundAuxiliary
