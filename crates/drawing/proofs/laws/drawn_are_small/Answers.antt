use Rattle.drawing.proofs.DrawLemmas.{drawn_small}
use Rattle.drawing.proofs.laws.drawn_are_small.Goals as goal

pub returns : goal.returns
returns c = drawn_small
