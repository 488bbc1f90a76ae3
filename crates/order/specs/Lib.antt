pub mod Written
pub mod Demand
pub mod Desk
pub mod Reading
