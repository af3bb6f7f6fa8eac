use Rattle.std.proofs.Common.{ℕ, List, length, subst}
use Rattle.quotient.specs.Counting.{AreInOrder}
use Rattle.letter_classes.proofs.classes.LetterClasses.class.Goals as goal

pub returns-clause-in_order : goal.returns-clause-in_order
returns-clause-in_order c =
    let P : List ℕ → Type 0 = λ l. AreInOrder l (length l) in
    subst P c.self.view_is c.self.invariant.order
