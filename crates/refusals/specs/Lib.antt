pub mod Grounds
