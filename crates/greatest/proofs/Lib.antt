mod Chains
pub mod Tests
