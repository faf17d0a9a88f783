pub mod Texts
pub mod ThreeWords
pub mod Telling
pub mod Commands
pub mod InRange
pub mod Forms
pub mod Order
pub mod Gathered
