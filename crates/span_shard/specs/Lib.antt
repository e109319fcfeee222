pub mod EmptyRanges
pub mod Overlay
pub mod Reading
pub mod Rows
pub mod Shard
pub mod Writes
pub use Rattle.span_store.specs.KeyVersions
pub use Rattle.span_store.specs.Versions
