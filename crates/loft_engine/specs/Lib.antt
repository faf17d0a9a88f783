pub mod CodeEngine
