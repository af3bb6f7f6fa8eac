use Rattle.std.proofs.Common.{ℕ, inl, inr, not, sym, ap, ◌∙◌}
use Rattle.std.proofs.lemmas.Bool.{cases_Bool, false≢true}
use Rattle.auto_core.specs.Automaton.{IsAccepting}
use Rattle.more_accepting.proofs.AvoidLemmas.{accepts_if_not_joined, joined_accepts_not}
use Rattle.more_accepting.proofs.making.accepts.Goals as goal

pub returns : goal.returns
returns c =
    let A = c.args.automaton.now in
    let p : ℕ = c.args.state in
    let not_p : IsAccepting A p → ⊥ = λ acc. false≢true (sym c.if-accepting.false ∙ c.accepting.ensures.told.1 acc) in (
      λ h. accepts_if_not_joined A p c.requires.state (λ j. false≢true (sym (ap not (c.has.ensures.told.1 ((c.requires.joined p).1 j))) ∙ h)),
      λ more. elim (cases_Bool c.has.result) [
        | inl t ↦ absurd (joined_accepts_not A p not_p ((c.requires.joined p).0 (c.has.ensures.told.0 t)) more)
        | inr f ↦ ap not f
      ],
    )
