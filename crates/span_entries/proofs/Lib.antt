pub mod DeclaredRows
pub mod KeyPlaces
pub mod OtherPlaces
pub mod KeyLengths
pub mod Along
pub mod WholeKeys
