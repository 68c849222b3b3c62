pub mod Places
pub mod Listed
