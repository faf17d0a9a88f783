pub mod Group
pub mod Printed
pub mod Text
pub mod Lines
