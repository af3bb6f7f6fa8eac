use Rattle.std.proofs.Common.{ℕ, ◌+◌, List, refl, sym, ◌∙◌, subst}
use Rattle.auto_core.specs.Game.{Holds}
use Rattle.prune_pairs.specs.declared.removing.Gone.{Gone}
use Rattle.prune_pairs.proofs.RemoveLemmas.{AreFound, found_none, found_more}
use Rattle.prune_pairs.proofs.removing.removable.Goals as goal
use Rattle.prune_pairs.proofs.removing.removable.Goals.{in-Some+in_ok-push, in_default}

pub loop-trans-preserved : goal.loop-trans-preserved
loop-trans-preserved c =
    let A = c.args.automaton.now in
    let B = Holds c.args.back.now.pairs in
    let F = Holds c.args.ahead.now.pairs in
    let m : ℕ = c.loop-trans.trans in
    let P : List Gone → Type 0 = AreFound A c.args.pair B F (m + 1) in
    elim c.match-first_better.branch as (λ _. AreFound A c.args.pair B F (m + 1) c.match-first_better.gone) [
      | in-Some+in_ok-push w ↦
          subst P (sym (w.gone-is ∙ w.in_ok-push.ensures.ok))
          (found_more A c.args.pair B F m c.loop-trans.gone (record { trans = m; by = w.in-Some.by }) refl c.loop-trans.invariant w.in-Some.ensures.some)
      | in_default w ↦ subst P (sym w.gone-is) (found_none A c.args.pair B F m c.loop-trans.gone c.loop-trans.invariant w.in_default.ensures.none)
    ]
