pub mod LookupLemmas
pub mod AnswerLemmas
pub mod RefusalLemmas
pub mod PartLemmas
pub mod ListLemmas
pub mod GreatestLemmas
