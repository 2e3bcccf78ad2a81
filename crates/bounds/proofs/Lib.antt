pub mod Bounds
pub mod Apart
pub mod Covers
pub mod Window
