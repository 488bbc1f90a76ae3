pub mod Sizes
pub mod Signed
pub mod Rounds
pub mod Differences
pub mod Laws
pub mod Examples
