pub mod Told
pub mod Fields
pub mod Accounts
