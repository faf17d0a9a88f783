pub mod Laws
pub mod Located
pub mod SourceFaults
pub mod Offsets
pub mod TextLaws
pub mod LocalLaws
pub mod LimitLaws
