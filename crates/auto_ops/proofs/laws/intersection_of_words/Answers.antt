use Rattle.auto_ops.proofs.IntersectionLaws.{intersection_words}
use Rattle.auto_ops.proofs.laws.intersection_of_words.Goals as goal

pub returns : goal.returns
returns c = intersection_words
