pub mod Laws
pub mod Putting
pub mod Getting
pub mod Filled
