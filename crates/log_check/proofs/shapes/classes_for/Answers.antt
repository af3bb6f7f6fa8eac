use Rattle.std.proofs.Common.{rules}
use Rattle.log_check.proofs.ShapeLemmas.{no_classes}
use Rattle.log_check.proofs.shapes.classes_for.Goals as goal

pub returns-in-Err-Shape : goal.returns-in-Err-Shape
returns-in-Err-Shape c = λ are. no_classes c.args.numbers.now (c.build.ensures.shape (search rules)) are.1
