pub mod HeadOf
pub mod NamesHold
pub mod HeadsKept
