pub mod Twos
pub mod NumberLaws
pub mod ReadLaws
pub mod TakenLaws
pub mod WriteLaws
pub mod RoundTrip
pub mod Theorems
pub mod Examples
