pub mod Trees
pub mod NamedTrees
pub mod StopLemmas
pub mod RankLemmas
