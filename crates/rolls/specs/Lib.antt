pub mod Terms
pub mod Fields
pub mod Lending
pub mod Rolls
