pub mod Checked
pub mod Cesu8
pub mod Idle
