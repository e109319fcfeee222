pub mod PartPlaces
pub mod PartRests
pub mod PartRanges
pub mod RowSources
