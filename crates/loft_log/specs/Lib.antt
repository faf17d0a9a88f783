pub mod WorldReport
