pub mod Laying
pub mod Printing
