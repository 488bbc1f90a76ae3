pub mod Number
pub mod Rounding
pub mod Difference
pub mod Position
