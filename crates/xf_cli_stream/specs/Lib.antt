pub mod Out
pub mod Answers
pub mod Answering
