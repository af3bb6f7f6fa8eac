use Rattle.std.proofs.Common.{ℕ, List, length, subst}
use Rattle.quotient.specs.Counting.{IsCount}
use Rattle.quotient.proofs.classes.Classes.count.Goals as goal

pub returns-clause-counted : goal.returns-clause-counted
returns-clause-counted c =
    let P : List ℕ → Type 0 = λ l. IsCount l (length l) c.self.inside.count in
    subst P c.self.view_is c.self.invariant.count
