pub mod Chains
pub mod Taking
pub mod Checked
pub mod Flat
pub mod Inside
pub mod fits
pub mod Alone
