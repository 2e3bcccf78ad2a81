pub mod Reading
pub mod Come
pub mod Stops
pub mod Stands
