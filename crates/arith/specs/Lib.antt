pub mod Int
pub mod Sum
pub mod Choice
