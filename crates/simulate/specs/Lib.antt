pub mod Ask
pub mod Carried
pub mod Feeding
pub mod Sheets
pub mod Racks
pub mod Desk
pub mod Reading
