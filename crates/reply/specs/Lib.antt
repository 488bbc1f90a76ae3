pub mod Word
pub mod Reply
