pub mod Lowest
pub mod Used
pub mod Rows
pub mod Demand
pub mod Wrong
