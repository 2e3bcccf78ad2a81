pub mod Index
pub mod Update
pub mod Request
