pub mod Laws
pub mod Allowed
pub mod Offers
