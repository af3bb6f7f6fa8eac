pub mod PairLemmas
pub mod TableLemmas
pub mod ClosingLemmas
pub mod StrictLemmas
pub mod LengthLemmas
