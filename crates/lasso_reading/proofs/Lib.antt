pub mod WordLemmas
pub mod SpellLemmas
pub mod ProductLemmas
pub mod MadeLemmas
pub mod PartLemmas
pub mod FindLemmas
pub mod ClassLemmas
