use Rattle.std.proofs.Common.{◌≡◌, ◌↔◌, ℕ, List, sym, subst}
use Rattle.auto_core.specs.Automaton.{Automaton}
use Rattle.auto_core.specs.Pairs.{set_of}
use Rattle.auto_core.specs.Rows.{HasBit}
use Rattle.lasso_accept.proofs.words.accepts_word.Goals as goal

pub returns : goal.returns
returns c =
    let A : Automaton = c.args.automaton.now in
    let w : List ℕ = c.args.word.now in
    let row : List ℕ = c.in_ok-row.row.items in
    let members : (q : ℕ) → HasBit row q ↔ set_of A w q = subst (λ v. (q : ℕ) → HasBit row q ↔ set_of A v q) c.as_slice.ensures c.in_ok-row.ensures.members in
    let seen : c.deref.result.now ≡ row = c.deref.ensures.value in (
      λ told.
          let (q, has, ends) = c.has_accepting.ensures.0 told in
          let (flag, run) = (members q).0 (subst (λ l. HasBit l q) seen has) in
          record { state = q; flag = flag; run = run; ends = ends },
      λ a. c.has_accepting.ensures.1 (a.state, subst (λ l. HasBit l a.state) (sym seen) ((members a.state).1 (a.flag, a.run)), a.ends),
    )
