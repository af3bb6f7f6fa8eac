-- The states with moves into a state, gathered one transition after another.
use Rattle.std.proofs.Common.{◌≡◌, ℕ, ◌+◌, ◌<◌, ◌≤◌, inl, inr, List, length, get_or, Contains, nat_eq, sym, ap, ◌∙◌, subst, arith}
use Rattle.std.proofs.lemmas.Bool.{cases_eq}
use Rattle.auto_core.specs.Automaton.{Automaton, Moves, IsIncoming, trans_at}
use Rattle.auto_core.specs.declared.parts.Trans.{Trans}
use Rattle.auto_core.proofs.MoveLemmas.{moves_in_incoming}
use Rattle.indexmap.specs.IndexSet.{insert_key}
use Rattle.bisimulation.specs.Rounds.{AreBelow}
use Rattle.bisimulation.proofs.PutLemmas.{put_keeps, put_has, put_below}

-- The sources of the first k transitions with these numbers have been added.
pub record IsAdding (A : Automaton) (numbers first now : List ℕ) (k : ℕ) : Type 0 where
  pub below : AreBelow A.states now
  pub more : (p : ℕ) → Contains first p → Contains now p
  pub done : (j : ℕ) → j < k → Contains now (trans_at A (get_or numbers j 0)).source

pub adding_starts : (A : Automaton) (numbers first : List ℕ) → AreBelow A.states first → IsAdding A numbers first first 0
adding_starts A numbers first below = record { below = below; more = λ p there. there; done = λ j lt. absurd (omega arith) }

pub adding_more : (A : Automaton) (numbers first now new : List ℕ) (k source : ℕ) → IsAdding A numbers first now k
    → source ≡ (trans_at A (get_or numbers k 0)).source → source < A.states → new ≡ insert_key nat_eq now source → IsAdding A numbers first new (k + 1)
adding_more A numbers first now new k source adding is below made = record {
  below = put_below A.states now new source made below adding.below;
  more = λ p there. put_keeps now new source p made (adding.more p there);
  done = λ j lt. elim (cases_eq j k) [
    | inl e ↦ subst (Contains new) (is ∙ ap (λ i. (trans_at A (get_or numbers i 0)).source) (sym e)) (put_has now new source made)
    | inr apart ↦ put_keeps now new source (trans_at A (get_or numbers j 0)).source made (adding.done j (omega arith))
  ];
}

pub adding_ends : (A : Automaton) (q : ℕ) (numbers first now : List ℕ) (k : ℕ) → IsIncoming A q numbers → length numbers ≤ k → IsAdding A numbers first now k
    → (p a : ℕ) → Moves A p a q → Contains now p
adding_ends A q numbers first now k incoming len adding p a move =
    let (j, lt, at) = moves_in_incoming A q numbers incoming p a move in
    subst (Contains now) (ap (λ (u : Trans). u.source) at) (adding.done j (omega arith))
