pub mod Reason
pub mod Words
pub mod Request
pub mod Lines
