pub mod Pool
pub mod Month
