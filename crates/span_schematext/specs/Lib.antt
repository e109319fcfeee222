pub mod Declarations
pub mod SchemaTexts
