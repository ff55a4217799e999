pub mod Statement
pub mod Places
