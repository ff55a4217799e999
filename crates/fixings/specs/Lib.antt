pub mod Fixings
