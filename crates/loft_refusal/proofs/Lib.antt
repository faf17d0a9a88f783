pub mod Known
mod Lines
mod LocksLemmas
