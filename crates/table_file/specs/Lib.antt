-- Reading order: Numbers, File, Answers, Parser.
pub mod Numbers
pub mod File
pub mod Answers
pub mod Parser
