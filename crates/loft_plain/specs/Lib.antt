pub mod PlainEngine
pub mod PlainJob
