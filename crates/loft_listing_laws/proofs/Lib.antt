pub mod OnePart
pub mod OneDeed
pub mod OneLine
pub mod OneDraft
