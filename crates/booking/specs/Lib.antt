pub mod Day
pub mod Intake
