pub mod Machine
pub mod Log
pub mod Answer
pub mod Ahead
