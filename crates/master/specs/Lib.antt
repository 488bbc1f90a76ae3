pub mod Master
pub mod Demand
pub mod Wrong
