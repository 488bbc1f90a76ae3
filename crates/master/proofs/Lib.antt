pub mod Laws
pub mod Demands
pub mod Only
pub mod Wrongs
