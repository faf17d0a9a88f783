pub mod BatchLemmas
pub mod StateLemmas
pub mod CountLemmas
