pub mod Standing
pub mod Assembled
pub mod Answer
