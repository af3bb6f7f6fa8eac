use Rattle.delayed_game.proofs.SetLemmas.{set_digits}
use Rattle.delayed_game.proofs.sets.set_in.Goals as goal

pub returns-clause-digits : goal.returns-clause-digits
returns-clause-digits c = λ i i_in. set_digits c.args.ends.now c.args.four i i_in
