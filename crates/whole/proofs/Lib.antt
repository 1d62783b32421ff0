pub mod Identities
pub mod Signs
