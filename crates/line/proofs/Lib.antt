pub mod Laws
pub mod Stretch
pub mod Apart
pub mod Theorems
