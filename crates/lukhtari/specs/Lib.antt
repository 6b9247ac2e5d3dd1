pub mod Host
pub mod Rights
pub mod Calls
pub mod Promises
