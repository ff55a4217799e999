pub mod Sides
pub mod Days
