pub mod Appended
pub mod EndLemmas
pub mod InstantLemmas
pub mod Lists
