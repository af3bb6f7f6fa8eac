use Rattle.auto_ops.proofs.UnionLaws.{union_words}
use Rattle.auto_ops.proofs.laws.union_of_words.Goals as goal

pub returns : goal.returns
returns c = union_words
