pub mod Lists
pub mod Starts
pub mod Finding
pub mod Standing
pub mod Fresh
pub mod Bytes
pub mod Request
