mod Products
pub mod Peaks
mod Limits
