pub mod Count
pub mod Faithful
pub mod Knowing
pub mod Lending
pub mod OfCode
pub mod PassValue
pub mod Rule
