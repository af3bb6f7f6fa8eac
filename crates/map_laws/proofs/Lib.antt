pub mod MapLemmas
pub mod LetterLemmas
pub mod BisimulationLemmas
