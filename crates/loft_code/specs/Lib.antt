pub mod Operations
pub mod View
pub mod Fits
pub mod Names
pub mod Places
pub mod Kinds
pub mod Valid
pub mod Leads
