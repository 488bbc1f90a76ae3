pub mod Among
pub mod Table
pub mod Access
pub mod Kinds
pub mod Resets
pub mod Ranges
