pub mod Rates
pub mod Orders
