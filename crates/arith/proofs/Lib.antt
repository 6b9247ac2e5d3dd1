-- Laws of whole numbers, sums and rounding, for the crates above.
pub mod Laws
pub mod Ring
pub mod Quote
pub mod Order
pub mod Linear
pub mod Abs
pub mod Round
pub mod Rests
pub mod Editions
pub mod Machine
pub mod Sums
pub mod Choices
pub mod Twos
pub mod Bits
