pub mod Chart
pub mod Rows
