pub mod MorePairs
pub mod FoundLemmas
pub mod PairLemmas
pub mod ArcLemmas
pub mod WordLemmas
pub mod DecideLemmas
pub mod RankLemmas
pub mod TrimLemmas
