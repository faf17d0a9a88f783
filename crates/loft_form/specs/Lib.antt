pub mod Form
pub mod Spells
pub mod Reading
pub mod Stops
pub mod Faults
