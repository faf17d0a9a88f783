-- The law that a canonical text reads as its program: its symbols without places spell the program without places
-- (Spelling to Declarations); what symbols without places spell, the symbols spell with places (Keeps to Unplaced); and
-- the text says those symbols (Written to Lines).
pub mod Keeps
pub mod Bare
pub mod Unplaced
pub mod Spelling
pub mod Expressions
pub mod Parts
pub mod Statements
pub mod Bodies
pub mod Items
pub mod Declarations
pub mod Written
pub mod Lexes
pub mod Kept
pub mod Lines
pub mod Law
pub mod PartLaw
