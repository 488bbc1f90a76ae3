pub mod Text
pub mod Numbers
pub mod Lines
pub mod Laid
pub mod Reading
pub mod Keeping
