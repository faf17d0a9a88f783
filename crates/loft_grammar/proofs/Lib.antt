pub mod Firsts
pub mod Leaves
pub mod Words
