pub mod Cuts
pub mod Form
