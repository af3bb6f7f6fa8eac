pub mod ArcLemmas
pub mod MinimalLemmas
pub mod WordLemmas
