use Rattle.std.proofs.Common.{◌≡◌, ℕ, List, Err, length, sym, ap, ◌∙◌, subst}
use Rattle.auto_core.specs.Quotient.{AreClassesOf}
use Rattle.quotient.specs.Counting.{HasShapeFault}
use Rattle.bisimulation.proofs.NumberLemmas.{Joined, no_fault}
use Rattle.bisimulation.proofs.numbering.numbered.Goals as goal

pub returns-in-Ok : goal.returns-in-Ok
returns-in-Ok c =
    let of : List ℕ = c.args.of.now in
    let is : c.in-Ok.classes ≡ c.in_ok-made.made.items = c.in-Ok.ensures.built ∙ c.deref.ensures.value in
    subst (λ (l : List ℕ). AreClassesOf (length of) (Joined of) l) (sym is) c.in_ok-made.ensures

pub unreachable-requires : goal.unreachable-requires
unreachable-requires c = no_fault c.in_ok-made.made.items c.in_ok-made.ensures.valid (subst HasShapeFault c.deref.ensures.value (c.in-Err-Shape.ensures.shape (ap Err c.in-Err-Shape.field-0-is)))
