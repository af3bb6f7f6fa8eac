pub mod PutLemmas
pub mod GatherLemmas
pub mod SourceLemmas
pub mod SignatureLemmas
pub mod RegardLemmas
pub mod SplitLemmas
pub mod NumberLemmas
pub mod RoundLemmas
