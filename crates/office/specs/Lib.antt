pub mod Decimal
pub mod Answer
pub mod Desk
pub mod Reading
