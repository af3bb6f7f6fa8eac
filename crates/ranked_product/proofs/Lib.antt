mod AlikeLemmas
mod CheckLemmas
mod RefusalLemmas
