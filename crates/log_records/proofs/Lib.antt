pub mod Every
pub mod Laying
