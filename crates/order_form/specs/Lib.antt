pub mod Rows
pub mod Check
pub mod Held
pub mod Demand
pub mod Wrong
