pub mod MemoLemmas
pub mod GraphsLemmas
pub mod TakenLemmas
pub mod PrintLemmas
pub mod GlimpseLemmas
pub mod ShareLemmas
