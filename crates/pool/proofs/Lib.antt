-- Theorems has what the definitions say; the others are on the way to the contracts.
pub mod PoolLaws
pub mod GateLaws
pub mod Theorems
