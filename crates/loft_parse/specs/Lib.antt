pub mod Faults
pub mod Parsing
pub mod SymbolPlaces
pub mod Alike
pub mod Unlimited
