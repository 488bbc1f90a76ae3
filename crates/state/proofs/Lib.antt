pub mod Lists
pub mod Bits
pub mod Laws
pub mod Brought
pub mod Edges
