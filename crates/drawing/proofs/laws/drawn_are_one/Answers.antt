use Rattle.drawing.proofs.DrawLemmas.{drawn_one}
use Rattle.drawing.proofs.laws.drawn_are_one.Goals as goal

pub returns : goal.returns
returns c = drawn_one
