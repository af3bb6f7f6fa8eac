pub mod GreatestLemmas
