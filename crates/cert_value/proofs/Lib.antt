pub mod TextLemmas
pub mod CheckLemmas
pub mod SplitLemmas
pub mod UpgradeLemmas
