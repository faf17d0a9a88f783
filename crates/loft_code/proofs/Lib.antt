pub mod SlotLemmas
pub mod Checked
pub mod Decided
pub mod Leading
