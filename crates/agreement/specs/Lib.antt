pub mod Answers
pub mod Agreement
pub mod Tried
pub mod Wrong
