pub mod LeavingLemmas
pub mod LawLemmas
pub mod PrefixLemmas
