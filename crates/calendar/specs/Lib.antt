pub mod Gregorian
