-- Reading order: Bytes, Tokens, Grammar, Value, Import, Examples, Parts.
pub mod Bytes
pub mod Tokens
pub mod Grammar
pub mod Value
pub mod Import
pub mod Examples
pub mod Parts
