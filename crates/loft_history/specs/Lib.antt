pub mod Clients
pub mod History
pub mod Legal
pub mod Report
