pub mod Resumption
pub mod Refusal
pub mod Answer
