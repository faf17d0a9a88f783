pub mod HistoryLemmas
pub mod OwnLemmas
pub mod AtEachLemmas
pub mod GrowthLemmas
pub mod LegalLemmas
pub mod LegalEntries
pub mod TallyLemmas
