pub mod GoesLemmas
pub mod RankLemmas
pub mod ClosedLemmas
pub mod WayLemmas
pub mod AscendLemmas
