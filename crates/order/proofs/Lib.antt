pub mod Stands
pub mod Forms
pub mod Demands
pub mod Examples
