use Rattle.std.proofs.Common.{ℕ, ◌+◌, ◌≤◌, ◌⊎◌, ◌↔◌, List, inl, inr, sym, ◌∙◌, subst, arith}
use Rattle.std.proofs.lemmas.Bool.{false≢true}
use Rattle.auto_core.specs.Automaton.{Automaton, Moves}
use Rattle.auto_core.specs.Rows.{HasBit}
use Rattle.set_rows.specs.Sets.{IsRow}
use Rattle.set_rows.proofs.SetLemmas.{Through, through_more, through_over, through_all}
use Rattle.set_rows.proofs.moving.write_after.Goals as goal
use Rattle.set_rows.proofs.moving.write_after.Goals.{then-has_bit, else-has_bit}

pub loop-state-preserved : goal.loop-state-preserved
loop-state-preserved c =
    let A : Automaton = c.args.automaton.now in
    let at : ℕ = c.loop-state.state in
    let old : List ℕ = c.loop-state.out in
    let From : ℕ → Type 0 = HasBit c.args.from.now in
    let C : ℕ → ℕ → Type 0 = λ m r. Moves A m c.args.label r in
    elim c.if-has_bit.branch [
      | then-has_bit w ↦
          let is_member : From at = sym c.has_bit.ensures ∙ w.if-has_bit.true in
          record {
            row = subst (IsRow A.states) (sym w.out-is) w.add_moves.ensures.row;
            members = λ q.
                let add : HasBit w.add_moves.new.out q ↔ (HasBit old q ⊎ C at q) = w.add_moves.ensures.members q in
                let was : HasBit old q ↔ Through From at C q = c.loop-state.invariant.members q in
                let more : Through From (at + 1) C q ↔ (Through From at C q ⊎ C at q) = through_more From at C is_member q in
                subst (λ l. HasBit l q ↔ Through From (at + 1) C q) (sym w.out-is) (
                  λ h. elim (add.0 h) [ inl o ↦ more.1 (inl (was.0 o)) | inr m ↦ more.1 (inr m) ],
                  λ h. elim (more.0 h) [ inl t ↦ add.1 (inl (was.1 t)) | inr m ↦ add.1 (inr m) ],
                );
          }
      | else-has_bit w ↦
          let no_member : From at → ⊥ = λ has. false≢true (sym w.if-has_bit.false ∙ c.has_bit.ensures ∙ has) in
          record {
            row = subst (IsRow A.states) (sym w.out-is) c.loop-state.invariant.row;
            members = λ q.
                let was : HasBit old q ↔ Through From at C q = c.loop-state.invariant.members q in
                let over : Through From (at + 1) C q ↔ Through From at C q = through_over From at C no_member q in
                subst (λ l. HasBit l q ↔ Through From (at + 1) C q) (sym w.out-is) (λ h. over.1 (was.0 h), λ h. was.1 (over.0 h));
          }
    ]

pub returns-clause-members : goal.returns-clause-members
returns-clause-members c = λ q.
    let A : Automaton = c.args.automaton.now in
    let at : ℕ = c.loop-state.state in
    let From : ℕ → Type 0 = HasBit c.args.from.now in
    let C : ℕ → ℕ → Type 0 = λ m r. Moves A m c.args.label r in
    let past = c.loop-state-test.false in
    let count = c.states-state-end.ensures.count in
    let free : (k : ℕ) → at ≤ k → From k → ⊥ = λ k le has. let lt = c.requires.from.below k has in absurd (omega arith) in
    let is = through_all From at C free q in
    let was : HasBit c.loop-state.out q ↔ Through From at C q = c.loop-state.invariant.members q in
    (λ h. is.0 (was.0 h), λ h. was.1 (is.1 h))
