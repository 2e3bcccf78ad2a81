pub mod Offered
pub mod Places
pub mod Calls
