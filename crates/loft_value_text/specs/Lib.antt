pub mod Appending
pub mod Buffer
pub mod LengthLaws
