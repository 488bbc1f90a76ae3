pub mod Addresses
pub mod Shows
pub mod Does
pub mod Way
pub mod Answer
