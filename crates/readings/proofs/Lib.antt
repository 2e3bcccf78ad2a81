pub mod Readings
pub mod Theorems
pub mod Come
