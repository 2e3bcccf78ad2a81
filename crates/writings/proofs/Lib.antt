pub mod Given
pub mod Turns
pub mod Theorems
pub mod Writes
pub mod Stretches
pub mod Come
pub mod Leaps
pub mod Leaping
