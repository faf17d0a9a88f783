pub mod ClientsRun
pub mod CourseLemmas
pub mod LastLemmas
pub mod RunsOn
pub mod StationLemmas
pub mod WorkersRun
