use Rattle.delayed_across.proofs.RefusalLemmas.{refusal_is_one}
use Rattle.delayed_across.proofs.laws.refusal_is_one.Goals as goal

pub returns : goal.returns
returns c = refusal_is_one
