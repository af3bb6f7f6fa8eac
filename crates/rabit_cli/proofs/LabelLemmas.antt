-- A reduction keeps the labels.
use Rattle.std.proofs.Common.{◌≡◌, ℕ, zero, suc, List, [], ◌∷◌, ◌∙◌}
use Rattle.auto_core.specs.Automaton.{Automaton}
use Rattle.auto_core.specs.declared.parts.Mode.{Mode}
use Rattle.reduce_loop.specs.declared.steps.Kind.{Kind}
use Rattle.reduce_loop.specs.declared.steps.Kind.TheVariants.{Trim, Forward, Backward, Delayed, Prune}
use Rattle.reduce_loop.specs.Kinds.{kinds_of, After}
use Rattle.reduce_loop.specs.declared.steps.Foresight.{Foresight}
use Rattle.reduce_loop.specs.Passes.{Through, LeadByPasses, IsReduced}

module _ (mode : Mode) (sight : Foresight) where
  after_labels : (A B : Automaton) (kind : Kind) → After A mode sight kind B → B.labels ≡ A.labels
  after_labels A B Trim (kept, useful, is) = is.labels
  after_labels A B Forward is = is.quotient.labels
  after_labels A B Backward is = is.quotient.labels
  after_labels A B Delayed is = is.quotient.labels
  after_labels A B (Prune n) is = is.cut.labels

  through_labels : (kinds : List Kind) (A C : Automaton) → Through A mode sight kinds C → C.labels ≡ A.labels
  through_labels [] A C is = λ i. (is i).labels
  through_labels (kind ∷ kinds) A C (B, first, rest) = through_labels kinds B C rest ∙ after_labels A B kind first

  passes_labels : (n : ℕ) (A C : Automaton) → LeadByPasses A mode sight n C → C.labels ≡ A.labels
  passes_labels zero A C is = λ i. (is.0 i).labels
  passes_labels (suc n) A C (B, pass, differs, rest) = passes_labels n B C rest ∙ through_labels (kinds_of mode) A B pass

  pub reduced_labels : (A B : Automaton) → IsReduced A mode sight B → B.labels ≡ A.labels
  reduced_labels A B (n, passes) = passes_labels n A B passes
